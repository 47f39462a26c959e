mod Agree
mod MoreBytes
mod Fits
mod Larger
mod ReadShaped
mod Refusals
