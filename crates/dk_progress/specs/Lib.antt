pub mod Fitness
pub mod ProgressLaws
