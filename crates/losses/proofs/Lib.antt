mod Laws
mod WalkLaws
