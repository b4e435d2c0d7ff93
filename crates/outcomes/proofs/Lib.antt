mod Allowing
mod Bounding
