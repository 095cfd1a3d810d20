pub mod OpenHomes
