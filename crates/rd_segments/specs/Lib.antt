pub mod Lists
pub mod Room
pub mod Array
pub mod SpaceFields
pub mod Parts
pub mod Space
