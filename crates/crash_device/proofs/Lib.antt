mod Crashes
mod PastKept
