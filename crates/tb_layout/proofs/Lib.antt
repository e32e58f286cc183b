pub mod Numbers
pub mod Records
pub mod Rising
pub mod Codes
