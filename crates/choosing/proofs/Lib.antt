mod Earlier
mod Firsts
mod Taking
