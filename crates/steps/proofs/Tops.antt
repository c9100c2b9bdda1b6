-- What is known of the sheet where a run that fits it stands inside an element: its production is one of the sheet's, as much is kept as its open
-- nodes ask for, and what was looked up for it is what the machine finds.
-- Assumes nothing.
use mathlib.Core.Path.{◌≡◌, refl, sym, ap, ◌∙◌, subst}
use mathlib.Core.Bool.{Bool, true}
use mathlib.Core.List.{List, [], ◌∷◌}
use mathlib.Core.Option.{Option, none, some}
use Prim.Native.Nat.{ℕ, zero, suc, ◌≤◌, ◌<◌}
use native.Mathlib.Omega.{arith}
use lib.Dec.{T}
use lib.ListN.{length, take}
use Rattle.expressions.specs.Expr.{Atom, nonterminal, anychar, Content, nothing, tree, nodes_of, places}
use Rattle.expressions.specs.Words.{Bracket}
use Rattle.expressions.proofs.Rule.{Rest}
use Rattle.expressions.specs.Grammar.{Production, Nth, Next, tag, tags_of, content_of, can_be}
use Rattle.expressions.specs.FaultList.{KeepsS}
use Rattle.layout.specs.Layout.{production_count}
use Rattle.layout.specs.LaidOut.{NumberRead, LaidOut}
use Rattle.layout.specs.declared.Layout.{Layout}
use Rattle.layout.specs.Records.{nonterminal_of, tag_number_of, node_count_of}
use Rattle.trees.specs.declared.Symbol.{Symbol}
use Rattle.trees.specs.Symbol.{next_of}
use Rattle.trees.specs.GrammarAt.{GrammarIs}
use Rattle.trees.proofs.Unique.{one_grammar}
use Rattle.trees.proofs.Grammars.{is_nth, nodes_of_content, content_at}
use Rattle.trees.proofs.Tallies.{few_atoms}
use Rattle.trees.specs.Parsed.{RunsInside}
use Rattle.sheet.specs.Defect.{WellFormed}
use Rattle.sheet.proofs.DefectLaws.{runs_inside}
use Rattle.sheet.specs.Sheet.{Sheet, IsSheet}
use Rattle.visits.specs.Written.{Pen}
use Rattle.sheet.proofs.SheetLaws.{sheet_grammar}
use Rattle.ways.specs.declared.Way.{Way}
use Rattle.ways.specs.Held.{codes, argument_number, HoldsString, HoldsWay, LineIs, no_line, a_line, WayIs, no_way, a_way}
use Rattle.ways.specs.Answers.{FollowsS, EndWayIs, AtomWayIs}
use Rattle.runs.specs.Lookup.{tag_of, produces, find}
use Rattle.runs.specs.Visits.{grammar}
use Rattle.runs.specs.Way.{Way as Found, end_way, atom_way}
use Rattle.runs.specs.Machine.{Open, Control, inside, production_for}
use Rattle.runs.proofs.Find.{find_sound}
use Rattle.runs.proofs.Ways.{GoesTo, found_atom}
use Rattle.runs.proofs.Nodes.{atom_nodes, open_iff}
use Rattle.fit.specs.RunFits.{RunFits, ChainAt}
use Rattle.fit.proofs.Frames.{produces_inv}
use Rattle.fit.proofs.Balanced.{of_nonterminal, way_balanced, end_balanced}
use Rattle.runs.specs.Nodes.{through_nodes, KeptAt}
use Rattle.runs.specs.Visits.{Saved}
use Rattle.std.specs.Prelude.{Option as Past, Some, None}
use Rattle.std.proofs.lemmas.Option.{none-some, same_Some}
use Rattle.lookups.specs.Found.{answer_of, ProductionFound, BlanksTold}
use Rattle.acts.specs.Acted.{BracketsAs, LeavesAs}
use Rattle.acts.specs.Seen.{ActedSeen}
use Rattle.state.specs.declared.Frame.{Frame}
use Rattle.state.specs.declared.State.{State}
use Rattle.state.specs.Changes.{top_of}
use Rattle.state.specs.Meaning.{open_of, sets_of, meaning_of, Shaped}
use Rattle.steps.specs.Parts.{RunReady}
use Rattle.steps.proofs.Places.{Inside, inside_at, sets_are}

few_places : (e : Content) → places e ≤ suc (nodes_of e)
few_places nothing = omega arith
few_places (tree e) = omega (arith, few_atoms e)

nth_tag : (g : List Production) (q : ℕ) (d : Production) → Nth g q d → tag_of g q ≡ d.tagno
nth_tag [] q d n = absurd n
nth_tag (c ∷ g) zero d n = ap (λ (y : Production). y.tagno) (sym n)
nth_tag (c ∷ g) (suc q) d n = nth_tag g q d n

module _ {s : List ℕ} {a : Sheet} (i : IsSheet s a) where
  abbrev γ : GrammarIs s (grammar a)
  γ = sheet_grammar i

  -- a production that is there, by its number
  module _ {q : ℕ} (b : q < production_count s) where
    abbrev own : Production
    own = record { nonterm = nonterminal_of s q; tagno = tag_number_of s q; content = content_of (grammar a) q }

    own_nth : Nth (grammar a) q own
    own_nth = is_nth s (grammar a) γ q b own (record { nonterminal_is = refl; tag_is = refl; content_is = content_at s (grammar a) γ q b })

    pub tag_is : tag_of (grammar a) q ≡ tag_number_of s q
    tag_is = nth_tag (grammar a) q own own_nth

    pub end_is : {p : ℕ} {r : Past ℕ} {b : List ℕ} → EndWayIs s q p r b → LineIs (end_way (content_of (grammar a) q) p) r b
    end_is w = w.is (grammar a) γ own own_nth

    pub way_is : {p : ℕ} {x : Symbol} {r : Past Way} {b : List ℕ} → AtomWayIs s q p x r b → WayIs (atom_way (tags_of (grammar a)) (content_of (grammar a) q) p (next_of x)) r b
    way_is w = w.is (grammar a) γ own own_nth

    pub few_nodes : node_count_of s q ≤ 32
    few_nodes = (i.well_formed_lem.productions.each q b).few_nodes

  -- what was looked up is a production of the sheet, or there is none
  find_few : (n t q : ℕ) → find (grammar a) n t ≡ some q → q < production_count s
  find_few n t q e = (produces_inv s (grammar a) γ q n (find_sound (grammar a) n t q e).0).0

  pub production_found : {n t q : ℕ} → ProductionFound s n t (Some q) → find (grammar a) n t ≡ some q
  production_found {n} {t} {q} f = by (find (grammar a) n t) (f.is a i)
    where
      by : (o : Option ℕ) → Some q ≡ answer_of o → o ≡ some q
      by none e = absurd (none-some q (sym e))
      by (some p) e = ap some (sym (same_Some q p e))

  pub no_production : {n t : ℕ} → ProductionFound s n t None → find (grammar a) n t ≡ none
  no_production {n} {t} f = by (find (grammar a) n t) (f.is a i)
    where
      by : (o : Option ℕ) → None ≡ answer_of o → o ≡ none
      by none e = refl
      by (some q) e = absurd (none-some q e)

  pub found_below : {n t q : ℕ} → ProductionFound s n t (Some q) → q < production_count s
  found_below {n} {t} {q} f = find_few n t q (production_found f)

  -- where the run stands
  module _ {z : State} (h : Shaped z) (f : RunFits a (meaning_of z)) (p : 0 < z.depth) where
    abbrev place : Inside z
    place = inside_at z h p

    top_nonterminal : (m : ℕ) × T (produces (grammar a) m (top_of z).production)
    top_nonterminal = of_nonterminal (grammar a) a.start_nonterminal (open_of (top_of z)) place.around (subst (ChainAt (grammar a) a.start_nonterminal) place.stands f.chain)

    pub top_below : (top_of z).production < production_count s
    top_below = (produces_inv s (grammar a) γ (top_of z).production top_nonterminal.0 top_nonterminal.1).0

    top_of_lem : T (produces (grammar a) top_nonterminal.0 (top_of z).production)
    top_of_lem = top_nonterminal.1

    kept_there : KeptAt (grammar a) (inside (open_of (top_of z)) place.around) (sets_of (top_of z) ∷ place.kept_around)
    kept_there =
        subst (λ (y : List (List Saved)). KeptAt (grammar a) (inside (open_of (top_of z)) place.around) y) place.keeps
        (subst (λ (y : Control). KeptAt (grammar a) y (meaning_of z).store.kept) place.stands f.kept)

    -- the strings of its ways fit the sets that it has in use
    pub top_balanced : (x : Next) (v : Found) → atom_way (tags_of (grammar a)) (content_of (grammar a) (top_of z).production) (top_of z).place x ≡ some v →
        (ns : List ℕ) × (ns' : List ℕ) × (through_nodes 12 v.string ns ≡ some ns') × ((top_of z).«open» ≡ suc (length ns))
    top_balanced x v e =
        let B = way_balanced i (open_of (top_of z)) place.around (sets_of (top_of z) ∷ place.kept_around) kept_there top_nonterminal.0 top_of_lem x v e in
        (B.0, B.1, B.2, sym (sets_are z h p) ∙ B.3)

    pub top_ends : (α : List Bracket) → end_way (content_of (grammar a) (top_of z).production) (top_of z).place ≡ some α →
        (ns : List ℕ) × (through_nodes 12 α ns ≡ some []) × (length (sets_of (top_of z)) ≡ suc (length ns))
    top_ends α e = end_balanced i (open_of (top_of z)) place.around (sets_of (top_of z) ∷ place.kept_around) kept_there top_nonterminal.0 top_of_lem α e

    -- a way's place is a byte
    pub place_small : (x : Next) (v : Found) → atom_way (tags_of (grammar a)) (content_of (grammar a) (top_of z).production) (top_of z).place x ≡ some v → v.place ≤ 32
    place_small x v e =
        let C = content_of (grammar a) (top_of z).production in
        let G : GoesTo (tags_of (grammar a)) x (Rest C (top_of z).place) v = found_atom (tags_of (grammar a)) x C (top_of z).place v e in
        let N = atom_nodes C (top_of z).place v.string v.place v.kind G.0 G.2 kept_there.0.0 kept_there.0.1 in
        let P : v.place < places C = (open_iff C v.place).0 (N.0, N.1) in
        omega (arith, P, few_places C, nodes_of_content s (top_of z).production C (content_at s (grammar a) γ (top_of z).production top_below), few_nodes top_below)

-- the same of a run that is ready, where f is its innermost element
module _ {s : List ℕ} {z : State} (y : RunReady s z) where
  pub well : WellFormed s
  well = y.is_sheet.well_formed_lem

  pub follows : FollowsS s
  follows g γ = subst KeepsS (one_grammar s (grammar y.sheet) g (sheet_grammar y.is_sheet) γ) y.passed.keeps_S

  pub runs_in : RunsInside s
  runs_in = runs_inside s well.productions

  module _ (o : 0 < z.depth) {f : Frame} (e : f ≡ top_of z) where
    top_there : (top_of z).production < production_count s
    top_there = top_below y.is_sheet y.shaped y.fits o

    pub top_inside : {l : Layout} → LaidOut s l → f.production < l.productions
    top_inside {l} L = omega (arith, ap (λ (x : Frame). x.production) e, top_there, L.layout_is.productions_is.is)

    pub top_few : node_count_of s f.production ≤ 32
    top_few = subst (λ (x : Frame). node_count_of s x.production ≤ 32) (sym e) (few_nodes y.is_sheet top_there)

  pub found_inside : {l : Layout} {n t q : ℕ} → LaidOut s l → ProductionFound s n t (Some q) → q < l.productions
  found_inside {l} L P = omega (arith, found_below y.is_sheet P, L.layout_is.productions_is.is)

module _ (s : List ℕ) (z : State) {f : Frame} (e : f ≡ top_of z) where
  pub top_way : {x : Symbol} {w : Past Way} {b : List ℕ} → AtomWayIs s f.production f.place x w b → AtomWayIs s (top_of z).production (top_of z).place x w b
  top_way {x} {w} {b} h = subst (λ (k : Frame). AtomWayIs s k.production k.place x w b) e h

  pub top_end : {w : Past ℕ} {b : List ℕ} → EndWayIs s f.production f.place w b → EndWayIs s (top_of z).production (top_of z).place w b
  top_end {w} {b} h = subst (λ (k : Frame). EndWayIs s k.production k.place w b) e h

  pub top_reads : {u : ℕ} → NumberRead 256 (tag_number_of s f.production) u → NumberRead 256 (tag_number_of s (top_of z).production) u
  top_reads {u} h = subst (λ (k : Frame). NumberRead 256 (tag_number_of s k.production) u) e h

  pub top_brackets : {w : List ℕ} {p : Pen} {r : Past ActedSeen} {d : List ℕ} → BracketsAs s f.production w z p r d → BracketsAs s (top_of z).production w z p r d
  top_brackets {w} {p} {r} {d} h = subst (λ (k : Frame). BracketsAs s k.production w z p r d) e h

  pub top_leaves : {b : State} {p : Pen} {r : Past ActedSeen} {d : List ℕ} → LeavesAs s f.production b p r d → LeavesAs s (top_of z).production b p r d
  top_leaves {b} {p} {r} {d} h = subst (λ (k : Frame). LeavesAs s k.production b p r d) e h

  pub top_blanks : {r : Bool} → BlanksTold s f.production r → BlanksTold s (top_of z).production r
  top_blanks {r} h = subst (λ (k : Frame). BlanksTold s k.production r) e h

-- a line that was found, and one that was not
pub line_found : {o : Option (List Bracket)} {n : ℕ} {b : List ℕ} → LineIs o (Some n) b → (α : List Bracket) × (o ≡ some α) × HoldsString α n b
line_found (a_line {α} h) = (α, refl, h)

pub line_missing : {o : Option (List Bracket)} {b : List ℕ} → LineIs o None b → o ≡ none
line_missing no_line = refl

pub way_found : {o : Option Found} {r : Way} {b : List ℕ} → WayIs o (Some r) b → (v : Found) × (o ≡ some v) × HoldsWay v r b
way_found (a_way {w} h) = (w, refl, h)

pub way_missing : {o : Option Found} {b : List ℕ} → WayIs o None b → o ≡ none
way_missing no_way = refl

-- a run inside an element, and the way that was found for it
pub record Leads (a : Sheet) (z : State) (x : Next) (w : Way) (b : List ℕ) : Type 0 where
  pub os : List Open
  pub stands : (meaning_of z).control ≡ inside (open_of (top_of z)) os
  pub deep : z.depth ≡ suc (length os)
  pub way : Found
  pub is_way : atom_way (tags_of (grammar a)) (content_of (grammar a) (top_of z).production) (top_of z).place x ≡ some way
  pub held : HoldsWay way w b
  pub bytes : take w.length b ≡ codes way.string

module _ {s : List ℕ} {a : Sheet} (i : IsSheet s a) {z : State} (h : Shaped z) (f : RunFits a (meaning_of z)) (o : 0 < z.depth) {x : Symbol} {b : List ℕ} where
  pub no_way_there : AtomWayIs s (top_of z).production (top_of z).place x None b → atom_way (tags_of (grammar a)) (content_of (grammar a) (top_of z).production) (top_of z).place (next_of x) ≡ none
  no_way_there W = way_missing (way_is i (top_below i h f o) W)

  pub way_leads : {w : Way} → AtomWayIs s (top_of z).production (top_of z).place x (Some w) b → Leads a z (next_of x) w b
  way_leads W =
      let j = inside_at z h o in
      let v = way_found (way_is i (top_below i h f o) W) in
      record {
        os = j.around;
        stands = j.stands;
        deep = j.deep;
        way = v.0;
        is_way = v.1;
        held = v.2;
        bytes = v.2.string_is.bytes_are (omega (arith, W.few, W.room));
      }

pub place_below : {s : List ℕ} {z : State} → RunReady s z → 0 < z.depth → {x : Symbol} {w : Way} {b : List ℕ} → AtomWayIs s (top_of z).production (top_of z).place x (Some w) b → w.place < 256
place_below y o {x} W =
    let L = way_leads y.is_sheet y.shaped y.fits o W in
    omega (arith, place_small y.is_sheet y.shaped y.fits o (next_of x) L.way L.is_way, L.held.place_is)

-- a way to an atom that can be a tag leads to a nonterminal, which is the argument that the way holds
pub to_nonterminal : (g : List Production) (e : Content) (p t : ℕ) (v : Found) (r : Way) (b : List ℕ) → atom_way (tags_of g) e p (tag t) ≡ some v → HoldsWay v r b →
    production_for g v.kind t ≡ find g r.argument t
to_nonterminal g e p t v r b h w = by v.kind (found_atom (tags_of g) (tag t) e p v h).1 w.argument_is
  where
    by : (k : Atom) → can_be (tags_of g) k (tag t) ≡ true → r.argument ≡ argument_number k → production_for g k t ≡ find g r.argument t
    by (nonterminal n) c q = ap (λ (m : ℕ). find g m t) (sym q)
    by anychar c q = absurd (let y : ◌≡◌ {A = ℕ} 0 1 = cc in omega arith)
