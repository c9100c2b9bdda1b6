mod TailLaws
mod TagLaws
mod LineLaws
mod Parts
