-- Rows of nodes: a node comes in, a field is put. Assumes nothing.
use mathlib.Core.Path.{◌≡◌, sym, ◌∙◌, ap, subst}
use mathlib.Core.Bool.{true}
use mathlib.Core.List.{List, [], ◌∷◌, ◌++◌, append_assoc}
use Prim.Native.Nat.{ℕ, ◌+◌, ◌-◌, ◌<◌}
use native.Mathlib.Omega.{arith}
use lib.ListN.{length, take, drop, length-append, take-append-drop}
use lib.Seq.{take_at, drop_at}
use Rattle.lent.specs.Put.{put, PutAs}
use Rattle.lent.proofs.Laws.{put_all, put_append}
use Rattle.beds.specs.declared.Row.{Row}
use Rattle.beds.specs.Nodes.{bare_node}
use Rattle.beds.specs.Bedded.{most_bed_bytes, Lays, NodeIn, FieldIn}

pub lays_as : {l m : List ℕ} {r : Row} → l ≡ m → Lays l r → Lays m r
lays_as {l} {m} {r} e h = subst (λ k. Lays k r) e h

-- the row's bytes: what it holds, and what lies behind
beyond : (l : List ℕ) (r : Row) → Lays l r → r.bytes ≡ l ++ drop r.length r.bytes
beyond l r h = sym (take-append-drop r.length r.bytes) ∙ ap (λ m. m ++ drop r.length r.bytes) h.bytes_are

beyond_two : (u v : List ℕ) (r : Row) → Lays (u ++ v) r → r.bytes ≡ u ++ (v ++ drop r.length r.bytes)
beyond_two u v r h = beyond (u ++ v) r h ∙ append_assoc u v (drop r.length r.bytes)

module _ (a : Row) (at kind argument : ℕ) where
  pub no_room : most_bed_bytes - 6 < a.length → NodeIn a at kind argument a
  no_room h = record { is = λ u v x e few. absurd (omega (arith, h, x.length_is, simp length-append at few, length-append u v)) }

  pub past_end : a.length < at → NodeIn a at kind argument a
  past_end h = record { is = λ u v x e few. absurd (omega (arith, h, x.length_is, length-append u v, e)) }

  pub node_in : (m : List ℕ) (behind : ℕ) (r : Row) → length a.bytes ≡ most_bed_bytes → PutAs true a.bytes at (bare_node kind argument) m behind
      → PutAs true m behind (take (a.length - at) (drop at a.bytes)) r.bytes r.length → NodeIn a at kind argument r
  node_in m behind r full p q = record {
    is = λ u v x e few.
        let k = bare_node kind argument in
        let z = drop a.length a.bytes in
        let w = drop (at + length (k ++ v)) a.bytes in
        let whole = beyond_two u v a x in
        let sum = length-append u v in
        let longer : length (k ++ v) ≡ 6 + length v = length-append k v in
        let all : length (u ++ (k ++ v)) ≡ length u + length (k ++ v) = length-append u (k ++ v) in
        let rest : drop at a.bytes ≡ v ++ z = ap (drop at) whole ∙ drop_at u (v ++ z) at (sym e) in
        let moved : take (a.length - at) (drop at a.bytes) ≡ v = ap (take (a.length - at)) rest ∙ take_at v z (a.length - at) (omega (arith, x.length_is, sum, e)) in
        let front : take at a.bytes ≡ u = ap (take at) whole ∙ take_at u (v ++ z) at (sym e) in
        let bytes : r.bytes ≡ put true m behind v = q.left ∙ ap (put true m behind) moved in
        let from : put true m behind v ≡ put true (put true a.bytes at k) (at + length k) v = ap (λ d. put true d behind v) p.left ∙ ap (λ n. put true (put true a.bytes at k) n v) p.next in
        let both : r.bytes ≡ put true a.bytes at (k ++ v) = bytes ∙ from ∙ put_append true a.bytes at k v in
        let laid : r.bytes ≡ (u ++ (k ++ v)) ++ w = both ∙ put_all a.bytes at (k ++ v) (omega (arith, full, few, all, e)) ∙ ap (λ l. (l ++ (k ++ v)) ++ w) front in
        let long : r.length ≡ length (u ++ (k ++ v)) = omega (arith, q.next, p.next, ap length moved, longer, all, e) in
        record { short = few; length_is = long; bytes_are = ap (take r.length) laid ∙ take_at (u ++ (k ++ v)) w r.length (sym long) };
  }

module _ (a : Row) (node skip low high : ℕ) where
  pub far_field : most_bed_bytes < node → FieldIn a (node + skip) low high a
  far_field h = record { is = λ u v x y l e. absurd (omega (arith, h, l.short, length-append u (x ∷ y ∷ v), e)) }

  pub field_in : (end : ℕ) (r : Row) → length a.bytes ≡ most_bed_bytes → PutAs true a.bytes (node + skip) (low ∷ high ∷ []) r.bytes end → r.length ≡ a.length → FieldIn a (node + skip) low high r
  field_in end r full p same = record {
    is = λ u v x y l e.
        let at = node + skip in
        let z = drop a.length a.bytes in
        let u' = u ++ (x ∷ y ∷ []) in
        let sum = length-append u (x ∷ y ∷ v) in
        let whole : a.bytes ≡ u ++ (x ∷ y ∷ (v ++ z)) = beyond_two u (x ∷ y ∷ v) a l in
        let parted : a.bytes ≡ u' ++ (v ++ z) = whole ∙ sym (append_assoc u (x ∷ y ∷ []) (v ++ z)) in
        let front : take at a.bytes ≡ u = ap (take at) whole ∙ take_at u (x ∷ y ∷ (v ++ z)) at (sym e) in
        let two : length u' ≡ at + 2 = length-append u (x ∷ y ∷ []) ∙ ap (λ n. n + 2) (sym e) in
        let rest : drop (at + 2) a.bytes ≡ v ++ z = ap (drop (at + 2)) parted ∙ drop_at u' (v ++ z) (at + 2) two in
        let put' : r.bytes ≡ (take at a.bytes ++ (low ∷ high ∷ [])) ++ drop (at + 2) a.bytes = p.left ∙ put_all a.bytes at (low ∷ high ∷ []) (omega (arith, full, l.short, sum, e)) in
        let bytes : r.bytes ≡ (u ++ (low ∷ high ∷ v)) ++ z =
        put' ∙ ap (λ d. (d ++ (low ∷ high ∷ [])) ++ drop (at + 2) a.bytes) front
        ∙ ap (λ d. (u ++ (low ∷ high ∷ [])) ++ d) rest
        ∙ append_assoc u (low ∷ high ∷ []) (v ++ z)
        ∙ sym (append_assoc u (low ∷ high ∷ v) z) in
        let sum' = length-append u (low ∷ high ∷ v) in
        let long : r.length ≡ length (u ++ (low ∷ high ∷ v)) = omega (arith, same, l.length_is, sum, sum') in
        record { short = omega (arith, l.short, sum, sum'); length_is = long; bytes_are = ap (take r.length) bytes ∙ take_at (u ++ (low ∷ high ∷ v)) z r.length (sym long) };
  }
