pub mod AnswerLemmas
pub mod FoundValues
pub mod GetterLemmas
pub mod GrammarFacts
pub mod LineLemmas
pub mod TextsLemmas
pub mod OneRequest
