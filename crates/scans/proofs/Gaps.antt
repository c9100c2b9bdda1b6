-- A byte between declarations, and the first. Assumes nothing.
use Rattle.std.specs.Prelude.{Some, None}
use mathlib.Core.Path.{◌≡◌, refl, sym, ◌∙◌, ap, subst}
use mathlib.Core.Logic.{◌↔◌}
use mathlib.Core.Bool.{Bool, true, false, cond, true≢false}
use mathlib.Core.Option.{none, some}
use mathlib.Core.List.{List, [], ◌∷◌, ◌++◌, append-nil}
use Prim.Native.Nat.{ℕ}
use native.Mathlib.Omega.{arith}
use lib.Dec.{eqb}
use lib.ListN.{length}
use borrow.Author.Tests.{eq-eqb, ne_eqb}
use Rattle.text.specs.Names.{blank}
use Rattle.notation.specs.Statements.{parentheses}
use Rattle.encoding.specs.Distinct.{place_of}
use Rattle.stores.proofs.Mentioning.{empty_store}
use Rattle.models.specs.Models.{Declaration}
use Rattle.models.specs.Family.{mentioned}
use Rattle.models.specs.Reader.{Phase, opening, DtdProgress, outside, within, moved_by, only_if_true, step_declarations, finished_phase, finished_dtd}
use Rattle.models.specs.Promises.{DtdFits}
use Rattle.models.specs.Sheets.{declared_names}
use Rattle.judging.specs.Standing.{StandsBehind, ContentMayBegin, NumberAt}
use Rattle.judging.proofs.Refused.{stands_first, one_byte_on, refused_by_grammar}
use Rattle.judging.proofs.Contents.{where_content_begins}
use Rattle.stages.specs.declared.Headway.{Headway}
use Rattle.stages.specs.Headway.{element_tail}
use Rattle.stages.specs.Steps.{BegunIs}
use Rattle.declaring.specs.Sections.{declared_productions, declared_nodes}
use Rattle.declaring.proofs.Sections.{sections_long}
use Rattle.rosters.specs.declared.Roster.{Roster}
use Rattle.rosters.specs.Rosters.{RosterRoom, RosterIs}
use Rattle.entries.specs.declared.Tally.{Tally}
use Rattle.entries.specs.Entries.{DeclarationsHeld}
use Rattle.dockets.specs.declared.Docket.{Docket}
use Rattle.dockets.specs.Kept.{NamesHeld, ElementIs, DeclarationsKept, within_bounds}
use Rattle.scans.specs.declared.Scan.{Scan}
use Rattle.scans.specs.Scans.{ScanFresh, Rooms, ScanIs, between, amid, ReadUpTo, InText, ByteRead, onward, halted, BetweenIs}
use Rattle.scans.proofs.Limits.{few_more, shallow_more, followed, scan}

abbrev Names : Type 0
Names = List (List ℕ)

-- what is kept between declarations
pub record BetweenAt (text : List ℕ) (at : ℕ) (s : Scan) (nb ne tb te productions nodes : List ℕ) : Type 0 where
  pub ds : List Declaration
  pub rows : Names
  pub tag_rows : Names
  pub stands : StandsBehind text at (outside ds)
  pub held : NamesHeld (mentioned ds) (declared_names ds) s.docket nb ne tb te rows tag_rows
  pub kept : DeclarationsKept text ds s.docket productions nodes

pub between_of : (text : List ℕ) (at : ℕ) (s : Scan) (nb ne tb te productions nodes : List ℕ) → s.out ≡ true → ReadUpTo text at s nb ne tb te productions nodes → BetweenAt text at s nb ne tb te productions nodes
between_of text at s nb ne tb te productions nodes o h = on h.state h.stands h.kept
  where
    on : (z : DtdProgress) → StandsBehind text at z → ScanIs text s nb ne tb te productions nodes z → BetweenAt text at s nb ne tb te productions nodes
    on (outside ds) st (between rows tag_rows e i k) = record { ds = ds; rows = rows; tag_rows = tag_rows; stands = st; held = i; kept = k }
    on (within ds q) st (amid rows tag_rows e i el hw k) = absurd (true≢false (sym o ∙ e))

opened_fits : (ds : List Declaration) → DtdFits (finished_dtd (outside ds)) → DtdFits (ds ++ finished_phase (opening element_tail) ∷ [])
opened_fits [] h = h
opened_fits (d ∷ ds) h = record { few = few_more (d ∷ ds) (finished_phase (opening element_tail)) h.few (omega arith); shallow = shallow_more (d ∷ ds) (finished_phase (opening element_tail)) h.shallow (omega arith) }

no_element : (k : Docket) (rows tag_rows : Names) → ElementIs k rows tag_rows []
no_element k rows tag_rows = record { number_is = λ n e. absurd (omega (arith, ap length e)); tag_is = λ n e. absurd (omega (arith, ap length e)) }

module _ (text : List ℕ) (at b : ℕ) (s : Scan) where
  pub between_blank : blank b ≡ true → BetweenIs text at b s s
  between_blank e = record { is = λ nb ne tb te productions nodes i o. on nb ne tb te productions nodes i o }
    where
      on : (nb ne tb te productions nodes : List ℕ) → InText text at b s nb ne tb te productions nodes → s.out ≡ true → ByteRead text at nb ne tb te productions nodes s
      on nb ne tb te productions nodes i o =
          let h = between_of text at s nb ne tb te productions nodes o i.up_to_lem in
          let opened = moved_by h.ds (only_if_true (eqb b 60) (opening element_tail)) in
          onward (record {
            inside = followed text i.rest at b i.next;
            rooms = i.up_to_lem.rooms;
            small = i.up_to_lem.small;
            going = i.up_to_lem.going;
            state = outside h.ds;
            stands = one_byte_on text i.rest at b (outside h.ds) (outside h.ds) h.stands i.next (ap (λ (t : Bool). cond t (some (outside h.ds)) opened) e) h.stands.fits;
            kept = between h.rows h.tag_rows o h.held h.kept;
          })

  pub between_opened : (hw : Headway) → blank b ≡ false → b ≡ 60 → BegunIs hw → BetweenIs text at b s (scan false None hw s.docket)
  between_opened hw e f begun = record { is = λ nb ne tb te productions nodes i o. on nb ne tb te productions nodes i o }
    where
      on : (nb ne tb te productions nodes : List ℕ) → InText text at b s nb ne tb te productions nodes → s.out ≡ true → ByteRead text at nb ne tb te productions nodes (scan false None hw s.docket)
      on nb ne tb te productions nodes i o =
          let h = between_of text at s nb ne tb te productions nodes o i.up_to_lem in
          let step : step_declarations parentheses (outside h.ds) b ≡ some (within h.ds (opening element_tail)) =
          ap (λ (t : Bool). cond t (some (outside h.ds)) (moved_by h.ds (only_if_true (eqb b 60) (opening element_tail)))) e ∙ ap (λ (t : Bool). moved_by h.ds (only_if_true t (opening element_tail))) (eq-eqb b 60 f) in
          onward (record {
            inside = followed text i.rest at b i.next;
            rooms = i.up_to_lem.rooms;
            small = i.up_to_lem.small;
            going = refl;
            state = within h.ds (opening element_tail);
            stands = one_byte_on text i.rest at b (outside h.ds) (within h.ds (opening element_tail)) h.stands i.next step (opened_fits h.ds h.stands.fits);
            kept = amid h.rows h.tag_rows refl
                (record {
                  names_are = subst (λ (l : Names). RosterIs l nb ne s.docket.names h.rows) (sym (append-nil (mentioned h.ds))) h.held.names_are;
                  tags_are = subst (λ (l : Names). RosterIs l tb te s.docket.tags h.tag_rows) (sym (append-nil (declared_names h.ds))) h.held.tags_are;
                })
                (no_element s.docket h.rows h.tag_rows) (begun.is (place_of h.rows)) h.kept;
          })

  pub between_other : (n : ℕ) → blank b ≡ false → (b ≡ 60 → ⊥) → NumberAt text at false n → BetweenIs text at b s (scan true (Some n) s.headway s.docket)
  between_other n e f w = record { is = λ nb ne tb te productions nodes i o. on nb ne tb te productions nodes i o }
    where
      on : (nb ne tb te productions nodes : List ℕ) → InText text at b s nb ne tb te productions nodes → s.out ≡ true → ByteRead text at nb ne tb te productions nodes (scan true (Some n) s.headway s.docket)
      on nb ne tb te productions nodes i o =
          let h = between_of text at s nb ne tb te productions nodes o i.up_to_lem in
          let step : (p : ℕ) → step_declarations p (outside h.ds) b ≡ none =
          λ p. ap (λ (t : Bool). cond t (some (outside h.ds)) (moved_by h.ds (only_if_true (eqb b 60) (opening element_tail)))) e ∙ ap (λ (t : Bool). moved_by h.ds (only_if_true t (opening element_tail))) (ne_eqb b 60 f) in
          let begins : (false ≡ true) ↔ ContentMayBegin text at =
          ((λ y. absurd (true≢false (sym y))), (λ y. let p = (where_content_begins text at (outside h.ds) h.stands).0 y in absurd (outside_within h.ds p.0 p.1 p.2))) in
          halted n refl (refused_by_grammar text i.rest at b n (outside h.ds) h.stands i.next step (w begins))
        where
          outside_within : (ds es : List Declaration) (n : List ℕ) → outside ds ≡ within es (Phase.contents n) → ⊥
          outside_within ds es n e = let z : ◌≡◌ {A = ℕ} 0 1 = cc in omega arith

-- in front of the text
nothing : (l : List ℕ) → length l ≡ 0 → [] ≡ l
nothing [] e = refl
nothing (x ∷ l) e = absurd (omega (arith, e))

no_names : (b e : List ℕ) (r : Roster) → RosterRoom b e → r ≡ record { count = 0; full = false; number = 0 } → RosterIs [] b e r []
no_names b e r h k =
    subst (λ (z : Roster). RosterIs [] b e z []) (sym k)
    (record { sized = h; held = empty_store b e; short = tt; all_held = λ y. refl; all_places = λ y. absurd (true≢false (sym y)); too_many = λ y. absurd (true≢false (sym y)) })

pub read_first : (text : List ℕ) (s : Scan) (nb ne tb te productions nodes : List ℕ) → ScanFresh s → Rooms nb ne tb te productions nodes → ReadUpTo text 0 s nb ne tb te productions nodes
read_first text s nb ne tb te productions nodes f r = record {
  inside = omega arith;
  rooms = r;
  small = record {
    number_small = omega (arith, ap (λ (z : Roster). z.number) f.no_names);
    element_small = omega (arith, f.no_element);
    tag_small = omega (arith, ap (λ (z : Roster). z.number) f.no_tags);
    few_productions = omega (arith, ap (λ (z : Tally). z.productions) f.no_declarations);
    few_nodes = omega (arith, ap (λ (z : Tally). z.nodes) f.no_declarations);
  };
  going = f.going;
  state = outside [];
  stands = stands_first text;
  kept = between {ds = []} [] [] f.out (record { names_are = no_names nb ne s.docket.names r.name_room f.no_names; tags_are = no_names tb te s.docket.tags r.tag_room f.no_tags })
      (within_bounds f.not_passed (record { few_declarations = omega arith; few_names = omega arith; few_nodes = omega arith })
      (subst (λ (t : Tally). DeclarationsHeld [] t productions nodes) (sym f.no_declarations)
      (record { count_is = refl; nodes_are = refl; productions_held = nothing (declared_productions []) (sections_long []).productions_long; nodes_held = nothing (declared_nodes []) (sections_long []).nodes_long })));
}
