pub mod SwordRows
pub mod SwordHistories
