pub mod Scanned
pub mod Numbers
pub mod Beginning
pub mod Walks
