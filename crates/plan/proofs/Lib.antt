mod Balance
mod FullCycle
