mod Beginnings
mod Ending
mod ReadOns
mod Stepping
