mod Judging
mod Handing
mod Going
mod Taking
mod Telling
