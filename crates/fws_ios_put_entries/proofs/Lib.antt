mod Nets
mod Pathing
mod Members
mod Spelled
