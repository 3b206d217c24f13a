pub mod Places
pub mod Results
pub mod Cells
pub mod Contents
pub mod Operations
pub mod Access
