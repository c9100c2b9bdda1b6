-- A bracket string that a way of the sheet gives opens and closes nodes as the sets that are kept of the element allow: its nodes nest (`atom_nodes`,
-- `end_nodes`), and no tree of a sheet is more than 12 deep.
-- Assumes nothing.
use mathlib.Core.Path.{◌≡◌}
use mathlib.Core.List.{List, [], ◌∷◌}
use mathlib.Core.Option.{some}
use Prim.Native.Nat.{ℕ, suc, ◌≤◌}
use lib.Dec.{T}
use lib.ListN.{length, get_or}
use Rattle.expressions.specs.Expr.{Content}
use Rattle.expressions.specs.Words.{Bracket}
use Rattle.expressions.specs.Grammar.{Production, Next, tags_of, content_of}
use Rattle.expressions.proofs.Rule.{Rest}
use Rattle.trees.proofs.Grammars.{content_at}
use Rattle.sheet.specs.Sheet.{Sheet, IsSheet}
use Rattle.sheet.proofs.SheetLaws.{sheet_grammar}
use Rattle.runs.specs.Lookup.{produces}
use Rattle.runs.specs.Visits.{grammar, Saved}
use Rattle.runs.specs.Way.{Way, end_way, atom_way}
use Rattle.runs.specs.Nodes.{deepest, through_nodes, KeptOf, KeptAt}
use Rattle.runs.specs.Machine.{Open, inside}
use Rattle.runs.proofs.Ways.{GoesTo, found_atom, found_end}
use Rattle.runs.proofs.Nodes.{atom_nodes, end_nodes, through_more}
use Rattle.fit.specs.RunFits.{Chain}
use Rattle.fit.proofs.Frames.{deep, produces_inv}

-- the innermost open element is of some nonterminal
pub of_nonterminal : (g : List Production) (n : ℕ) (o : Open) (os : List Open) → Chain g n o os → (m : ℕ) × T (produces g m o.production)
of_nonterminal g n o [] h = (n, h)
of_nonterminal g n o (p ∷ os) h = (h.0, h.2)

module _ {s : List ℕ} {a : Sheet} (i : IsSheet s a) (o : Open) (os : List Open) where
  abbrev g : List Production
  g = grammar a

  abbrev C : Content
  C = content_of g o.production

  kept_first : (kss : List (List Saved)) → KeptAt g (inside o os) kss → KeptOf g o (get_or kss 0 [])
  kept_first [] k = absurd k
  kept_first (ks ∷ kss) k = k.0

  module _ (kss : List (List Saved)) (k : KeptAt g (inside o os) kss) (n : ℕ) (p : T (produces g n o.production)) where
    shallow : deepest C ≤ 12
    shallow = deep s o.production C (content_at s g (sheet_grammar i) o.production (produces_inv s g (sheet_grammar i) o.production n p).0)

    pub way_balanced : (x : Next) (w : Way) → atom_way (tags_of g) C o.place x ≡ some w →
        (ns : List ℕ) × (ns' : List ℕ) × (through_nodes 12 w.string ns ≡ some ns') × (length (get_or kss 0 []) ≡ suc (length ns))
    way_balanced x w e =
        let K = kept_first kss k in
        let G : GoesTo (tags_of g) x (Rest C o.place) w = found_atom (tags_of g) x C o.place w e in
        let N = atom_nodes C o.place w.string w.place w.kind G.0 G.2 K.0 K.1 in
        (K.0, N.0, through_more (deepest C) 12 shallow w.string K.0 N.0 N.2, K.2)

    pub end_balanced : (α : List Bracket) → end_way C o.place ≡ some α →
        (ns : List ℕ) × (through_nodes 12 α ns ≡ some []) × (length (get_or kss 0 []) ≡ suc (length ns))
    end_balanced α e =
        let K = kept_first kss k in
        (K.0, through_more (deepest C) 12 shallow α K.0 [] (end_nodes C o.place α (found_end C o.place α e) K.0 K.1), K.2)
