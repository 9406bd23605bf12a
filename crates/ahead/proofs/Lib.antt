mod Sooner
mod Firsts
mod Listing
mod Places
mod Gathering
