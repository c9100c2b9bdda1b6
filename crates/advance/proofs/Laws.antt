-- What is kept one token further. Assumes nothing.
use Rattle.std.specs.Prelude.{Option as Taken, Some, None}
use mathlib.Core.Path.{◌≡◌, sym, ◌∙◌, ap, subst}
use mathlib.Core.List.{List, ◌++◌}
use Prim.Native.Nat.{ℕ, ◌-◌}
use native.Mathlib.Omega.{arith}
use lib.ListN.{length, take}
use Rattle.notation.specs.Rules.{Rules}
use Rattle.notation.specs.Tokens.{TextToken, nonterminal, value, attribute, name, start_tag, end_tag, empty_tag, string, word, sign, token_bytes}
use Rattle.reading.specs.Rules.{Progress}
use Rattle.lexemes.specs.Kinds.{token_kind, token_number, TokenFits}
use Rattle.verdicts.specs.Judged.{Goes}
use Rattle.sketches.specs.Moves.{Sketch}
use Rattle.drafts.specs.Drafted.{sketch_of, PointIs}
use Rattle.drafts.specs.declared.Place.{Place}
use Rattle.mentions.specs.SoFar.{whole_in, Tidy}
use Rattle.ledgers.specs.Trodden.{LeadsToRules}
use Rattle.rulings.specs.declared.Reader.{Reader}
use Rattle.rulings.specs.Readers.{Holds}
use Rattle.inks.specs.declared.Ink.{Ink}
use Rattle.turns_ink.specs.Turned.{ItemPlaced, InkTurned}
use Rattle.turns_bed.specs.Turned.{BedStands, EndedAt, BedTurned}
use Rattle.turns_past.specs.Turned.{PastTurned}
use Rattle.beds.specs.declared.Bed.{Bed}
use Rattle.desks.specs.Spots.{spot, spot_of}
use Rattle.desks.specs.Kept.{RowPlaceIs}
use Rattle.shelves.specs.declared.Shelved.{Shelved}
use Rattle.shelves.specs.Shelves.{ShelvedIs}
use Rattle.slips.specs.declared.Slip.{Slip}
use Rattle.slips.specs.Slips.{slip_turned, Slipped, SlipFits}
use Rattle.slips.proofs.Turns.{spots_alike, turns}
use Rattle.slips.proofs.Fits.{fits_turn}
use Rattle.pasts.specs.declared.Past.{Past}
use Rattle.rowing.specs.Rows.{RowOf}
use Rattle.advance.specs.declared.Desk.{Desk}
use Rattle.advance.specs.Advance.{FiledRow, Firmly, DeskHolds, BehindToken, Advanced}

pub filed_row : (token : List ℕ) (kind number : ℕ) (ink : Ink) (old : Shelved) (out out' tb te sb se pb pe tb' te' sb' se' pb' pe' : List ℕ) (n : ℕ) (a : Taken Shelved) → length out ≡ 256 → RowOf token kind number ink out out' n
    → ShelvedIs kind (take (n - 0) out') old tb te sb se pb pe tb' te' sb' se' pb' pe' a → FiledRow token kind number ink old tb te sb se pb pe tb' te' sb' se' pb' pe' a
filed_row token kind number ink old out out' tb te sb se pb pe tb' te' sb' se' pb' pe' n a l w f =
    let z : n - 0 ≡ n = omega arith in
    record {
      rowed = f.rowed;
      is = λ r s s' t rest e h k j d g m i st.
          (subst (λ (c : ℕ). ShelvedIs kind (take c out') old tb te sb se pb pe tb' te' sb' se' pb' pe' a) z f).is r s s' t k h d g m (w.is r s t rest e h k j l i) st;
    }

item_placed : (r : Rules) (s : Progress) (t : TextToken) (place : ℕ) → RowPlaceIs r s t place → ItemPlaced r t place
item_placed r s (nonterminal n) place p = tt
item_placed r s (value v) place p = tt
item_placed r s (attribute m a) place p = tt
item_placed r s (name n) place p = tt
item_placed r s (start_tag n) place p = record { numbered = p.is; small = omega (arith, p.small) }
item_placed r s (end_tag n) place p = record { numbered = p.is; small = omega (arith, p.small) }
item_placed r s (empty_tag n) place p = record { numbered = p.is; small = omega (arith, p.small) }
item_placed r s (string cs) place p = record { lies = p.is; small = omega (arith, p.small) }
item_placed r s (word w) place p = tt
item_placed r s (sign g) place p = tt

ended_at : (r : Rules) (s : Progress) (t : TextToken) (place : ℕ) → RowPlaceIs r s t place → EndedAt r s t place
ended_at r s t place p q g e l v =
    let k = subst (λ (u : TextToken). RowPlaceIs r s u place) e p in
    (k.is g (ap whole_in l ∙ v), omega (arith, k.small))

spot_is : (s : Progress) (before : Reader) (here : ℕ) → Holds s before → here ≡ spot_of before.draft.point → spot s ≡ here
spot_is s before here h e = sym (spots_alike s) ∙ ap (λ (k : Sketch). spot_of k.point) h.drawn.numbers ∙ sym e

stands_at : (s : Progress) (here : ℕ) → spot s ≡ here → BedStands s here
stands_at s here e = record { at_tag = λ f u h k. sym e ∙ ap spot k; inside = λ x f u h k. sym e ∙ ap spot k }

abbrev desk_of : Slip → Past → Shelved → Ink → Bed → Desk
desk_of s p a i b = record { slip = s; past = p; shelved = a; ink = i; bed = b }

pub advanced_as : (d : Desk) (before behind : Reader) (token : List ℕ) (kind number : ℕ) (tb te sb se pb pe productions nodes tb' te' sb' se' pb' pe' productions' nodes' : List ℕ)
    (here there : ℕ) (w : Place) (new : Shelved) (past2 : Past) (slip2 : Slip) (ink2 : Ink) (bed2 : Bed)
    → Firmly d tb te sb se pb pe productions nodes → length productions' ≡ length productions → length nodes' ≡ length nodes
    → here ≡ spot_of before.draft.point → there ≡ spot_of behind.draft.point → PointIs before.draft.point w
    → FiledRow token kind number d.ink d.shelved tb te sb se pb pe tb' te' sb' se' pb' pe' (Some new)
    → PastTurned d.past d.slip d.bed here there kind productions nodes productions' nodes' past2
    → slip2 ≡ slip_turned d.slip here kind number new.place
    → InkTurned d.ink kind number new.place w.reads w.second ink2
    → BedTurned d.bed here kind number new.place w.reads w.second bed2
    → Advanced d before behind token kind number tb te sb se pb pe productions nodes tb' te' sb' se' pb' pe' productions' nodes' (Some (desk_of slip2 past2 new ink2 bed2))
advanced_as d before behind token kind number tb te sb se pb pe productions nodes tb' te' sb' se' pb' pe' productions' nodes' here there w new past2 slip2 ink2 bed2 f lp ln eh et ew fr pt st it bt = record {
  firmly = record { rowed = fr.rowed; trim = it.trim; production_room = lp ∙ f.production_room; node_room = ln ∙ f.node_room };
  is = λ r s s' t rest h h' g fit k n e ti l kept. on r s s' t rest h h' g fit k n e ti l kept;
}
  where
    on : (r : Rules) (s s' : Progress) (t : TextToken) (rest : List ℕ) → Holds s before → Holds s' behind → Goes s t s' → TokenFits t → kind ≡ token_kind t → number ≡ token_number t → token ≡ token_bytes t ++ rest → Tidy s → LeadsToRules s' r
        → DeskHolds r s d tb te sb se pb pe productions nodes → BehindToken r s' (Some (desk_of slip2 past2 new ink2 bed2)) tb' te' sb' se' pb' pe' productions' nodes'
    on r s s' t rest h h' g fit k n e ti l kept =
        let o = fr.is r s s' t rest e fit k n ti g l kept.ink_held kept.stores in
        let sp = spot_is s before here h eh in
        let sp' = spot_is s' behind there h' et in
        let turned_is : (place : ℕ) → slip_turned d.slip (spot s) (token_kind t) (token_number t) place ≡ slip_turned d.slip here kind number place =
        λ place. ap (λ (c : ℕ). slip_turned d.slip c (token_kind t) (token_number t) place) sp ∙ ap (λ (c : ℕ). slip_turned d.slip here c (token_number t) place) (sym k) ∙ ap (λ (c : ℕ). slip_turned d.slip here kind c place) (sym n) in
        record {
          kept = record {
            stores = o.stored;
            slipped = subst (Slipped r s') (turned_is new.place ∙ sym st) (turns r s s' t new.place d.slip g.taken o.placed kept.slipped);
            slip_fits = subst SlipFits (turned_is new.place ∙ sym st) (fits_turn r s (spot s) t new.place d.slip fit o.placed kept.slip_fits);
            ink_held = it.is r s s' (sketch_of before.draft) t h.drawn ew.program g fit k n (item_placed r s t new.place o.placed) kept.ink_held;
            bed_held = bt.is r s s' (sketch_of before.draft) t h.drawn ew.program (stands_at s here sp) g k n (ended_at r s t new.place o.placed) kept.bed_held;
            past_held = pt.is r s s' t sp sp' k g f.production_room f.node_room kept.slipped kept.slip_fits kept.bed_held kept.past_held;
          };
          no_space = tt;
        }

-- no room
pub full_as : (d : Desk) (before behind : Reader) (token : List ℕ) (kind number : ℕ) (tb te sb se pb pe productions nodes tb' te' sb' se' pb' pe' productions' nodes' : List ℕ) (q : Taken Desk) → Firmly d tb te sb se pb pe productions nodes → length productions' ≡ length productions → length nodes' ≡ length nodes → q ≡ None
    → FiledRow token kind number d.ink d.shelved tb te sb se pb pe tb' te' sb' se' pb' pe' None → Advanced d before behind token kind number tb te sb se pb pe productions nodes tb' te' sb' se' pb' pe' productions' nodes' q
full_as d before behind token kind number tb te sb se pb pe productions nodes tb' te' sb' se' pb' pe' productions' nodes' q f lp ln e fr =
    subst (Advanced d before behind token kind number tb te sb se pb pe productions nodes tb' te' sb' se' pb' pe' productions' nodes') (sym e) (record {
      firmly = record { rowed = fr.rowed; trim = f.trim; production_room = lp ∙ f.production_room; node_room = ln ∙ f.node_room };
      is = λ r s s' t rest h h' g fit k n ei ti l kept.
          record { kept = tt; no_space = (fr.is r s s' t rest ei fit k n ti g l kept.ink_held kept.stores).no_space };
    })
