-- A phase by its station; which name ends. Assumes nothing.
use mathlib.Core.Path.{◌≡◌, refl, sym, ◌∙◌, subst}
use mathlib.Core.Bool.{Bool, true, false}
use mathlib.Core.Option.{none}
use mathlib.Core.List.{List}
use mathlib.Core.Logic.{inl, inr}
use Prim.Native.Nat.{ℕ}
use Rattle.text.specs.Names.{name_byte}
use Rattle.models.specs.Reader.{Phase, opening, naming, named, contents, emptying, inside, hashing, mixing, barred, mixed_name, mixed_closed, wants, in_name, marking, after, group_closed, ended}
use Rattle.models.specs.Names.{own_name, inner_name}
use Rattle.stages.specs.declared.Station.{Station}
use Rattle.stages.specs.declared.Station.TheVariants.{Opening, Naming, Named, Contents, Emptying, Inside, Hashing, Mixing, Barred, MixedName, MixedClosed, Wants, InName, Marking, After, GroupClosed, Ended}
use Rattle.stages.specs.declared.Headway.{Headway}
use Rattle.stages.specs.declared.NameEnd.{NameEnd}
use Rattle.stages.specs.Headway.{station_of, PhaseHolds, HeadwayIs}
use Rattle.stages.specs.Steps.{AtStation, NameEndIs, none_ends, own_ends, inner_ends, NameEndAs}

at_its_station : (P : Phase → Type 0) (q : Phase) → AtStation P (station_of q) → P q
at_its_station P (opening rest) f = f rest
at_its_station P naming f = f
at_its_station P (named n) f = f n
at_its_station P (contents n) f = f n
at_its_station P (emptying n rest) f = f n rest
at_its_station P (inside n) f = f n
at_its_station P (hashing n rest) f = f n rest
at_its_station P (mixing n names) f = f n names
at_its_station P (barred n names) f = f n names
at_its_station P (mixed_name n names m) f = f n names m
at_its_station P (mixed_closed n names) f = f n names
at_its_station P (wants n l ls) f = f n l ls
at_its_station P (in_name n m l ls) f = f n m l ls
at_its_station P (marking n x l ls) f = f n x l ls
at_its_station P (after n x l ls) f = f n x l ls
at_its_station P (group_closed n x) f = f n x
at_its_station P (ended n c) f = f n c

-- where the code has found the station
pub of_station : (P : Phase → Type 0) (t : Station) {number : List ℕ → ℕ} {q : Phase} {s : Headway} → s.station ≡ t → HeadwayIs number q s → AtStation P t → P q
of_station P t {q = q} e h f = at_its_station P q (subst (AtStation P) (sym e ∙ h.station_is) f)

-- where no name is being read
abbrev pub Nameless : Station → Type 0
Nameless Opening = Unit {0}
Nameless Naming = Unit {0}
Nameless Named = ⊥
Nameless Contents = Unit {0}
Nameless Emptying = Unit {0}
Nameless Inside = Unit {0}
Nameless Hashing = Unit {0}
Nameless Mixing = Unit {0}
Nameless Barred = Unit {0}
Nameless MixedName = ⊥
Nameless MixedClosed = Unit {0}
Nameless Wants = Unit {0}
Nameless InName = ⊥
Nameless Marking = Unit {0}
Nameless After = Unit {0}
Nameless GroupClosed = Unit {0}
Nameless Ended = Unit {0}

nameless : (q : Phase) → Nameless (station_of q) → (own_name q ≡ none) × (inner_name q ≡ none)
nameless (opening rest) h = (refl, refl)
nameless naming h = (refl, refl)
nameless (named n) h = absurd h
nameless (contents n) h = (refl, refl)
nameless (emptying n rest) h = (refl, refl)
nameless (inside n) h = (refl, refl)
nameless (hashing n rest) h = (refl, refl)
nameless (mixing n names) h = (refl, refl)
nameless (barred n names) h = (refl, refl)
nameless (mixed_name n names m) h = absurd h
nameless (mixed_closed n names) h = (refl, refl)
nameless (wants n l ls) h = (refl, refl)
nameless (in_name n m l ls) h = absurd h
nameless (marking n x l ls) h = (refl, refl)
nameless (after n x l ls) h = (refl, refl)
nameless (group_closed n x) h = (refl, refl)
nameless (ended n c) h = (refl, refl)

module _ (s : Headway) (b : ℕ) where
  pub in_a_name : {t : Bool} → t ≡ name_byte b → t ≡ true → NameEndAs s b NameEnd.Nothing
  in_a_name e y = record { is = λ number q h. none_ends (inl (sym e ∙ y)) }

  pub no_name : (t : Station) → s.station ≡ t → Nameless t → NameEndAs s b NameEnd.Nothing
  no_name t e f = record { is = λ number q h. none_ends (inr (nameless q (subst Nameless (sym e ∙ h.station_is) f))) }

  pub own_name_lem : {t : Bool} → t ≡ name_byte b → t ≡ false → s.station ≡ Station.Named → NameEndAs s b (NameEnd.Own s.long)
  own_name_lem e n f = record {
    is = λ number q h. of_station (λ q. PhaseHolds number q s → NameEndIs q b (NameEnd.Own s.long)) Station.Named f h (λ w k. own_ends w refl (sym e ∙ n) k) h.holds;
  }

  pub inner_name_lem : {t : Bool} → t ≡ name_byte b → t ≡ false → s.station ≡ Station.InName → NameEndAs s b (NameEnd.Inner s.long)
  inner_name_lem e n f = record {
    is = λ number q h. of_station (λ q. PhaseHolds number q s → NameEndIs q b (NameEnd.Inner s.long)) Station.InName f h (λ w m l ls k. inner_ends m refl (sym e ∙ n) k.0) h.holds;
  }

  pub inner_mixed_name : {t : Bool} → t ≡ name_byte b → t ≡ false → s.station ≡ Station.MixedName → NameEndAs s b (NameEnd.Inner s.long)
  inner_mixed_name e n f = record {
    is = λ number q h. of_station (λ q. PhaseHolds number q s → NameEndIs q b (NameEnd.Inner s.long)) Station.MixedName f h (λ w names m k. inner_ends m refl (sym e ∙ n) k.0) h.holds;
  }
