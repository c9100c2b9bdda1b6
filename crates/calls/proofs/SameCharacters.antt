-- What a tree puts out is names of the sheet and characters of the Char set, since the events that its tokens spell hold no others (`run_fits` of the runs); so, written, it
-- reads back as itself.
-- Assumes nothing.
use mathlib.Core.Path.{◌≡◌, refl, sym, subst}
use mathlib.Core.Logic.{inl, inr}
use mathlib.Core.Bool.{Bool}
use mathlib.Core.List.{List, [], ◌∷◌}
use Prim.Native.Nat.{ℕ}
use native.Mathlib.Omega.{arith}
use Rattle.text.specs.Chars.{Char}
use Rattle.tokens.specs.Tokens.{start, end, empty, Tok, tag, Ref, ref, amp, lt, gt, apos, quot, numeric, line, char, stands, Good}
use Rattle.tokens.specs.Stream.{AllGood}
use Rattle.sheet.specs.Sheet.{Sheet, IsSheet}
use Rattle.output.specs.Escape.{Piece}
use Rattle.runs.specs.Events.{Event, starts, ends, letter}
use Rattle.runs.specs.Acts.{Store}
use Rattle.runs.specs.Fits.{EventsFit, StoreFits}
use Rattle.runs.specs.Machine.{fresh_configuration, after}
use Rattle.runs.specs.Taken.{Passed, closed_with}
use Rattle.runs.specs.Spells.{Token, events_of_token, Mark, events_of_marks, Spells, all_read, blank_after, blank_between, one_event, empty_tag}
use Rattle.runs.specs.SoFar.{SpelledSoFar, events_so_far}
use Rattle.runs.proofs.Fits.{fresh_fits, run_fits}
use Rattle.runs.proofs.SheetFits.{sheet_fits}
use Rattle.runs.proofs.Spells.{so_far_run, so_far_iff, spelled_iff}
use Rattle.calls.specs.Names.{token_for, tokens_for}
use Rattle.calls.specs.ReadsBack.{ReadsBackAs}
use Rattle.calls.specs.SameCharacters.{AcceptedReadBack, ExplainedReadBack}
use Rattle.calls.proofs.ReadsBack.{pieces_as}

-- the events of each token fit
abbrev TokensFit : List Token → Type 0
TokensFit [] = Unit {0}
TokensFit (k ∷ ks) = EventsFit (events_of_token k) × TokensFit ks

-- what a named reference stands for is a character
stands_char : (x : Ref) → Char (stands x)
stands_char amp = inr (inr (inr (inl (omega arith, omega arith))))
stands_char lt = inr (inr (inr (inl (omega arith, omega arith))))
stands_char gt = inr (inr (inr (inl (omega arith, omega arith))))
stands_char apos = inr (inr (inr (inl (omega arith, omega arith))))
stands_char quot = inr (inr (inr (inl (omega arith, omega arith))))

token_fits : (a : Sheet) (t : Tok) → Good t → EventsFit (events_of_token (token_for a t))
token_fits a (tag start n b) g = tt
token_fits a (tag end n b) g = tt
token_fits a (tag empty n b) g = tt
token_fits a (ref x) g = (stands_char x, tt)
token_fits a (numeric k ds) g = (g.1, tt)
token_fits a (line x) g = (inr (inl refl), tt)
token_fits a (char c) g = (g.0, tt)

tokens_fit : (a : Sheet) (ts : List Tok) → AllGood ts → TokensFit (tokens_for a ts)
tokens_fit a [] g = tt
tokens_fit a (t ∷ ts) g = (token_fits a t g.0, tokens_fit a ts g.1)

event_before : (x : Event) (xs : List Event) → EventsFit (x ∷ []) → EventsFit xs → EventsFit (x ∷ xs)
event_before (starts t) xs f g = g
event_before (ends t) xs f g = g
event_before (letter c) xs f g = (f.0, g)

spelled_fit : {last : Bool} {ms : List Mark} {ts : List Token} → Spells last ms ts → TokensFit ts → EventsFit (events_of_marks ms)
spelled_fit all_read f = tt
spelled_fit (blank_after k b l d) f = tt
spelled_fit (blank_between k x b d) f = spelled_fit d f.1
spelled_fit (one_event {ms} k b x h e d) f = event_before x (events_of_marks ms) (subst EventsFit e f.0) (spelled_fit d f.1)
spelled_fit (empty_tag t b b' d) f = spelled_fit d f.1

module _ {b : List ℕ} {a : Sheet} (i : IsSheet b a) (ok : Passed a) where
  so_far_fits : (ts : List Tok) → AllGood ts → (m : Store) → SpelledSoFar a (tokens_for a ts) m → StoreFits m
  so_far_fits ts g m so =
      run_fits a (sheet_fits i) fresh_configuration fresh_fits (events_so_far so) (spelled_fit so.spells (tokens_fit a ts g)) _ (so_far_run a ok (tokens_for a ts) m so).events_run

  pub explained_read_back : ExplainedReadBack a
  explained_read_back s more room n t o v x =
      let f = so_far_fits x.tokens x.good x.store x.so_far_lem in
      subst (λ (l : List ℕ). ReadsBackAs l x.store.env.out) (sym x.is_output) (pieces_as x.store.env.out f.output_fits)

  pub accepted_read_back : AcceptedReadBack a
  accepted_read_back s v x =
      let so = (so_far_iff a ok (tokens_for a x.tokens) (closed_with v).store).0 (after, (spelled_iff a ok (tokens_for a x.tokens) v).1 x.spells) in
      pieces_as v.out (so_far_fits x.tokens x.good (closed_with v).store so).output_fits
