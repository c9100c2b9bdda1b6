-- What is read of bytes that fit means what they mean, and fits.
-- Assumes nothing.
use mathlib.Core.Path.{◌≡◌, refl, sym, ap, ap₂, subst, ◌∙◌}
use mathlib.Core.List.{List, []}
use Prim.Native.Nat.{ℕ, zero, suc, ◌+◌, ◌^◌, ◌≤◌, ◌<◌}
use native.Mathlib.Omega.{arith}
use lib.ListN.{length, take, drop, length-drop}
use Rattle.layout.specs.Layout.{byte_at}
use Rattle.sheet.specs.Sheet.{Sheet, IsSheet, grammar_of}
use Rattle.sheet.proofs.SheetLaws.{sheet_grammar}
use Rattle.runs.specs.Machine.{Configuration}
use Rattle.fit.specs.RunFits.{RunFits}
use Rattle.fit.proofs.Theorems.{fit_shaped}
use Rattle.fit.proofs.RunsFit.{fit_run}
use Rattle.state.specs.Bounds.{head_width}
use Rattle.state.specs.Bytes.{long_at, state_from}
use Rattle.state.specs.Changes.{not_closed, tidied}
use Rattle.state.specs.Meaning.{meaning_of, Shaped}
use Rattle.state.specs.declared.State.{State}
use Rattle.state.proofs.Widths.{read_sized}
use Rattle.state.proofs.Tidy.{meaning_tidied, shaped_tidied}
use Rattle.live.specs.declared.Live.{Live}
use Rattle.live.specs.Live.{full}
use Rattle.converter.specs.Answered.{FitsSheet}
use Rattle.rescue.specs.Held.{Mode, between, inside, skipping}
use Rattle.rescued.specs.Bytes.{mode_at, passed_at, first_at, refused_at, waiting_at, returning_bytes, returning_in, mode_from}
use Rattle.rescued.specs.Fits.{SalvageFits, ModeFits}
use Rattle.rescued.proofs.Alone.{root_alone}
use Rattle.turns.specs.declared.Stand.{Stand}
use Rattle.turns.specs.declared.Given.{Given}
use Rattle.turns.specs.Stands.{between_in, inside_in, skipping_in, mode_of, RunStands, holds_between, holds_inside, holds_skipping, ReadyOn}
use Rattle.holding.specs.Told.{ReturnsAs, StandAs, is_between, is_inside, is_skipping}
use Rattle.strides.proofs.Basics.{alone, stands_alone}
use Rattle.handback.specs.Begun.{BegunAs, StandBegins}

-- a state that is read of bytes, and fits, without what is not in use
module _ {s : List ℕ} {a : Sheet} (G : IsSheet s a) (b : List ℕ) (F : FitsSheet a (state_from b)) (h : Live) (stack : List ℕ) (e : full h stack ≡ tidied (state_from b)) where
  shaped_here : Shaped (state_from b)
  shaped_here = fit_shaped s (grammar_of a.rules) (sheet_grammar G) a.start_nonterminal (state_from b) (read_sized b (omega (arith, F.count)) (omega (arith, F.few))) F

  means_here : meaning_of (full h stack) ≡ meaning_of (state_from b)
  means_here = ap meaning_of e ∙ meaning_tidied (state_from b) shaped_here

  stands_here : (state_from b).closed ≡ not_closed → RunStands a h stack
  stands_here o =
      let c : h.count ≡ (state_from b).count = ap (λ (z : State). z.count) e in
      record {
        count = omega (arith, c, F.count);
        is_open = ap (λ (z : State). z.closed) e ∙ o;
        shaped = subst Shaped (sym e) (shaped_tidied (state_from b) shaped_here);
        fits = subst (RunFits a) (sym means_here) (fit_run G (state_from b) (read_sized b (omega (arith, F.count)) (omega (arith, F.few))) F);
      }

pub stand_begins : StandBegins
stand_begins s a g part b out area t G F o base K = by K (byte_at b mode_at) refl F.mode
  where
    stack : List ℕ
    stack = drop head_width b

    by : StandAs b t → (m : ℕ) → byte_at b mode_at ≡ m → ModeFits a b (length area) m → BegunAs a g part b out area t
    by (is_between z h e q) m me f =
        subst (BegunAs a g part b out area) (sym q)
        (record {
          mode = ap (λ (y : Configuration). between y) (means_here G b F.run h (drop head_width b) e) ∙ sym (ap (mode_from b area) z);
          ready =
              record {
                within = omega arith;
                far = omega (arith, F.few);
                room = omega arith;
                waits = omega arith;
                long = omega (arith, F.wide, length-drop head_width b);
                stands = stands_here G b F.run h (drop head_width b) e o;
                holds = holds_between refl;
              };
        })
    by (is_inside z y h r e q) zero me f = absurd (omega arith)
    by (is_inside z y h r e q) (suc (suc m)) me f = absurd (omega arith)
    by (is_inside z y h r e q) (suc zero) me f =
        let R = root_alone b F.wide in
        let d : y.depth ≡ 1 = ap (λ (u : State). u.depth) r.is ∙ R.one in
        let st : List ℕ = drop head_width (returning_bytes b) in
        let back : meaning_of (full y []) ≡ meaning_of (returning_in b) = ap meaning_of (alone y st [] (omega arith)) ∙ means_here G (returning_bytes b) f.returns y st r.is in
        subst (BegunAs a g part b out area) (sym q)
        (record {
          mode =
              ap₂ (λ (u v : Configuration). inside u v (long_at b first_at) (take (long_at b waiting_at) area)) back (means_here G b F.run h (drop head_width b) e) ∙ sym (ap (mode_from b area) z);
          ready =
              record {
                within = omega arith;
                far = omega (arith, F.few);
                room = omega arith;
                waits = f.waits;
                long = omega (arith, F.wide, length-drop head_width b);
                stands = stands_here G b F.run h (drop head_width b) e o;
                holds = holds_inside (omega (arith, f.began)) d (stands_alone y st [] (omega arith) (stands_here G (returning_bytes b) f.returns y st r.is R.is_open));
              };
        })
    by (is_skipping z₀ z₁ h e q) zero me f = absurd (z₀ me)
    by (is_skipping z₀ z₁ h e q) (suc zero) me f = absurd (z₁ me)
    by (is_skipping z₀ z₁ h e q) (suc (suc (suc m))) me f = absurd f
    by (is_skipping z₀ z₁ h e q) (suc (suc zero)) me f =
        subst (BegunAs a g part b out area) (sym q)
        (record {
          mode = ap (λ (u : Configuration). skipping u (long_at b first_at) (byte_at b refused_at)) (means_here G b F.run h (drop head_width b) e) ∙ sym (ap (mode_from b area) me);
          ready =
              record {
                within = omega arith;
                far = omega (arith, F.few);
                room = omega arith;
                waits = omega arith;
                long = omega (arith, F.wide, length-drop head_width b);
                stands = stands_here G b F.run h (drop head_width b) e o;
                holds = holds_skipping f.was_damaged refl;
              };
        })
