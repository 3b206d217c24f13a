pub mod Positions
pub mod Origins
pub mod Writers
pub mod Laws
