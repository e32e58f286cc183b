pub mod Words
pub mod Jobs
pub mod Laid
pub mod Admissions
