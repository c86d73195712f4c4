mod Clips
mod Ends
