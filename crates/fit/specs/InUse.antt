-- When two states have the same in use: the same elements open, with the same sets, and the same values, count and closing number.
-- Assumes nothing.
use Rattle.std.specs.Prelude.{◌≡◌, List, [], ◌∷◌, take}
use Rattle.state.specs.declared.Frame.{Frame}
use Rattle.state.specs.declared.State.{State}

pub record FrameInUse (f h : Frame) : Type 0 where
  pub production : f.production ≡ h.production
  pub place : f.place ≡ h.place
  pub count : f.«open» ≡ h.«open»
  pub sets : take f.«open» f.saved ≡ take h.«open» h.saved

pub data FramesInUse : List Frame → List Frame → Type 0 where
  neither : FramesInUse [] []
  both : {f h : Frame} {fs hs : List Frame} → FrameInUse f h → FramesInUse fs hs → FramesInUse (f ∷ fs) (h ∷ hs)

pub record SameUse (z y : State) : Type 0 where
  pub values : z.values ≡ y.values
  pub count : z.count ≡ y.count
  pub closed : z.closed ≡ y.closed
  pub depth : z.depth ≡ y.depth
  pub frames : FramesInUse (take z.depth z.frames) (take y.depth y.frames)
