mod Played
mod Releases
