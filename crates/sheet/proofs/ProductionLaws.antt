-- Laws of number 4: a production's tests, joined, and all productions after the last one.
-- Assumes nothing.
use mathlib.Core.Path.{◌≡◌}
use mathlib.Core.Bool.{◌&&◌}
use mathlib.Core.List.{List}
use Prim.Native.Nat.{ℕ, ◌+◌, ◌<◌}
use native.Mathlib.Omega.{arith}
use native.Mathlib.Numerals.{add-one}
use lib.Dec.{leb, ltb, eqb}
use Rattle.tells.specs.Tells.{Tells}
use Rattle.layout.specs.Layout.{byte_at, tag_count, production_count}
use Rattle.layout.specs.Records.{production_at, nonterminal_of, tag_number_of, first_node_of, node_count_of, nodes_before}
use Rattle.layout.specs.LaidOut.{LaidOut}
use Rattle.layout.specs.declared.Layout.{Layout}
use Rattle.sheet.specs.Productions.{ProductionFits, Productions}
use Rattle.tells.proofs.Laws.{as_told, both_told, leb_tells, ltb_tells, eqb_tells}

module _ (s : List ℕ) (q before tags n t f c five ten eleven : ℕ) where
  pub production_told :
      before ≡ nodes_before s q → tags ≡ tag_count s → n ≡ nonterminal_of s q → t ≡ tag_number_of s q → f ≡ first_node_of s q → c ≡ node_count_of s q →
      five ≡ byte_at s (production_at s q + 5) → ten ≡ byte_at s (production_at s q + 10) → eleven ≡ byte_at s (production_at s q + 11) →
      Tells (ProductionFits s q) (((leb n 63 && ltb t tags) && (eqb f before && leb c 32)) && (eqb five 0 && (eqb ten 0 && eqb eleven 0)))
  production_told eb eg en et ef ec e5 e10 e11 =
      as_told
      (λ z. record { nonterminal = omega (arith, z.0.0.0); tag = omega (arith, z.0.0.1); follows = omega (arith, z.0.1.0); few_nodes = omega (arith, z.0.1.1); zero_5 = omega (arith, z.1.0); zero_10 = omega (arith, z.1.1.0); zero_11 = omega (arith, z.1.1.1) })
      (λ z. (((omega arith, omega arith), (omega arith, omega arith)), (omega arith, (omega arith, omega arith))))
      (both_told (both_told (both_told (leb_tells n 63) (ltb_tells t tags)) (both_told (eqb_tells f before) (leb_tells c 32)))
      (both_told (eqb_tells five 0) (both_told (eqb_tells ten 0) (eqb_tells eleven 0))))

pub nodes_next : (s : List ℕ) (q b n : ℕ) → b ≡ nodes_before s q → n ≡ node_count_of s q → b + n ≡ nodes_before s (q + 1)
nodes_next s q b n e f = rw add-one (omega arith)

-- after the last production
pub productions_told :
    (s : List ℕ) (l : Layout) → LaidOut s l → (q b : ℕ) → q ≡ l.productions → ((k : ℕ) → k < q → ProductionFits s k) → b ≡ nodes_before s q →
    Tells (Productions s) (eqb b l.nodes && leb l.start 63)
productions_told s l d q b e h eb =
    let i = d.layout_is in
    let eq = i.productions_is.is in
    let en = i.nodes_is.is in
    let es = i.start_is.is in
    let same : q ≡ production_count s = cc in
    let runs : b ≡ nodes_before s (production_count s) = rw same at eb in
    as_told
    (λ z. record { each = λ k x. h k (omega (arith, x, same)); every_node = omega (arith, z.0, runs, en); start_fits = omega (arith, z.1, es) })
    (λ z. (omega (arith, z.every_node, runs, en), omega (arith, z.start_fits, es)))
    (both_told (eqb_tells b l.nodes) (leb_tells l.start 63))
