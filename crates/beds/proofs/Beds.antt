-- A bed behind each piece of an expression. Assumes nothing.
use mathlib.Core.Path.{◌≡◌, refl, sym, ◌∙◌, ap, ap₂, subst}
use mathlib.Core.Bool.{Bool, true, false}
use mathlib.Core.List.{List, [], ◌∷◌, ◌++◌, append-nil}
use mathlib.Core.Option.{Option, none, some}
use Prim.Native.Nat.{ℕ, zero, suc, ◌+◌, ◌-◌, ◌/◌, ◌%◌, ◌≤◌, ◌<◌}
use native.Mathlib.Numerals.{add-one, sub-one}
use native.Mathlib.Omega.{arith}
use lib.Dec.{ltb}
use lib.ListN.{length, get_or, set, length-append}
use lib.Seq.{get_or-set_same, get_or-set_other}
use borrow.Author.Tests.{le-ltb}
use Rattle.expressions.specs.Expr.{Atom}
use Rattle.notation.specs.Program.{TextProgram}
use Rattle.notation.specs.Rules.{Tree, node, star}
use Rattle.notation.specs.Statements.{parentheses}
use Rattle.reading.specs.Expressions.{a_leaf, leaf_form, a_star, a_dot, a_bar, an_open, a_close, a_brace, ExpressionLevel, expression_level, fresh_expression, joined_cat, whole_expression, fronted, Parsing, wants, in_front, after, behind, over, expression_opened, expression_closed, backed, step_piece, value_of_content, whole_value}
use Rattle.packing.specs.Packed.{word, kind, argument}
use Rattle.sketches.specs.Figures.{present}
use Rattle.sketches.specs.Sketched.{levels_of}
use Rattle.beds.specs.declared.Row.{Row}
use Rattle.beds.specs.declared.Pair.{Pair}
use Rattle.beds.specs.declared.Bed.{Bed}
use Rattle.beds.specs.Nodes.{field_of, bare_node, tree_nodes, form_nodes, content_nodes, up_to_union, up_to_cat, up_to_operand}
use Rattle.beds.specs.Bedded.{most_bed_bytes, Lays, NodeIn, FieldIn, pair_at, pairs_of, just_opened, no_pair, stacked, Bedded, FewNodesRead, FreshIs, PieceIs, LeafIs, held_in, SettledIs, FinishedIs}
use Rattle.beds.proofs.Lists.{leaf_nodes, from_cat, from_union, fresh_cat, fresh_operand, first_apart, few_after, few_wants}
use Rattle.beds.proofs.Rows.{lays_as}

abbrev pub bed : Row → Pair → List Pair → ℕ → Bed
bed row here around n = record { row = row; here = here; around = around; «open» = n }

abbrev pub pair : ℕ → ℕ → ℕ → Bool → ℕ → ℕ → Pair
pair u c o f low high = record { union = u; cat = c; operand = o; fronted = f; low = low; high = high }

-- the pair with another place for its concatenation and its operand
abbrev shifted : Pair → ℕ → ℕ → Pair
shifted p c o = pair p.union c o p.fronted p.low p.high

pub none_some : {A B : Type 0} {x : A} → none ≡ some x → B
none_some {A} {B} {x} e = absurd (let z : ◌≡◌ {A = ℕ} 0 1 = cc in omega arith)

pub some_same : {A : Type 0} {x y : A} → some x ≡ some y → x ≡ y
some_same e = cc

-- the step of a machine leads to one state
led : (field : TextProgram → ℕ) (y x' : Parsing) (r : Bed) → some y ≡ some x' → FewNodesRead x' → (FewNodesRead y → Bedded field y r) → Bedded field x' r
led field y x' r e few h = let same = some_same e in subst (λ z. Bedded field z r) same (h (subst FewNodesRead (sym same) few))

-- the array of pairs as a list
pub stacked_length : (ps : List Pair) (n : ℕ) → length (stacked ps n) ≡ n
stacked_length ps zero = refl
stacked_length ps (suc n) = ap suc (stacked_length ps n)

stacked_set : (ps : List Pair) (n m : ℕ) (p : Pair) → m ≤ n → stacked (set ps n p) m ≡ stacked ps m
stacked_set ps n zero p h = refl
stacked_set ps n (suc m) p h =
    let a : get_or (set ps n p) m no_pair ≡ get_or ps m no_pair = get_or-set_other ps n m p no_pair (omega arith) in
    let b = stacked_set ps n m p (omega arith) in
    cc

stacked_push : (ps : List Pair) (n : ℕ) (p : Pair) → n < length ps → stacked (set ps n p) (n + 1) ≡ p ∷ stacked ps n
stacked_push ps n p h =
    let a : get_or (set ps n p) n no_pair ≡ p = get_or-set_same ps n p no_pair h in
    let b = stacked_set ps n n p (omega arith) in
    rw add-one (cc)

stacked_pop : (ps : List Pair) (n : ℕ) → (n ≡ 0 → ⊥) → stacked ps n ≡ get_or ps (n - 1) no_pair ∷ stacked ps (n - 1)
stacked_pop ps zero h = absurd (h refl)
stacked_pop ps (suc n) h = rw sub-one

pairs_length : (field : TextProgram → ℕ) (ls : List ExpressionLevel) → length (pairs_of field ls) ≡ length ls
pairs_length field [] = refl
pairs_length field (l ∷ ls) = ap suc (pairs_length field ls)

fresh_pair : (field : TextProgram → ℕ) (ls : List ExpressionLevel) (n : ℕ) → n ≡ length (up_to_union field ls) → just_opened n ≡ pair_at field fresh_expression ls
fresh_pair field ls n e =
    let c : n ≡ length (up_to_cat field fresh_expression ls) = e ∙ sym (ap length (fresh_cat field ls)) in
    let o : n ≡ length (up_to_operand field fresh_expression ls) = e ∙ sym (ap length (fresh_operand field ls)) in
    ap (λ u. pair u n n false 255 255) e
    ∙ ap (λ m. pair (length (up_to_union field ls)) m n false 255 255) c
    ∙ ap (λ m. pair (length (up_to_union field ls)) (length (up_to_cat field fresh_expression ls)) m false 255 255) o

pub fresh_is : (bytes : List ℕ) (around : List Pair) → FreshIs (bed (record { bytes = bytes; length = 0 }) (just_opened 0) around 0)
fresh_is bytes around = record { is = λ field. record { begun = refl; few_open = omega arith; laid = record { short = omega arith; length_is = refl; bytes_are = refl }; here_is = fresh_pair field [] 0 refl; around_are = refl } }

module _ (b : Bed) where
  pub leaf_is : (kind' argument' : ℕ) (row : Row) → NodeIn b.row b.row.length kind' argument' row → LeafIs b kind' argument' (bed row b.here b.around b.«open»)
  leaf_is kind' argument' row n = record { is = λ k e f. record { is = λ field x x' s few h. go k e f field x x' s few h } }
    where
      go : (k : Option Atom) → kind' ≡ kind (leaf_form k) → argument' ≡ argument (leaf_form k) → (field : TextProgram → ℕ) (x x' : Parsing) → step_piece x (a_leaf k) ≡ some x' → FewNodesRead x' → Bedded field x b
          → Bedded field x' (bed row b.here b.around b.«open»)
      go k e f field (wants w l ls) x' s few h = led field (after (node none none (leaf_form k)) l ls) x' (bed row b.here b.around b.«open») s few (λ small.
          let u = up_to_operand field l ls in
          let same : bare_node kind' argument' ≡ tree_nodes field (node none none (leaf_form k)) = ap₂ bare_node e f ∙ leaf_nodes field k in
          let room : length (u ++ bare_node kind' argument') ≤ most_bed_bytes = subst (λ m. length (u ++ m) ≤ most_bed_bytes) (sym same) (few_after field (node none none (leaf_form k)) l ls small) in
          record {
            begun = tt;
            few_open = h.few_open;
            laid = lays_as (ap (λ m. u ++ m) same) (n.is u [] (lays_as (sym (append-nil u)) h.laid) h.laid.length_is room);
            here_is = h.here_is;
            around_are = h.around_are;
          })
      go k e f field (in_front q ls) x' s few h = none_some s
      go k e f field (after a l ls) x' s few h = none_some s
      go k e f field (behind q f' a ls) x' s few h = none_some s
      go k e f field (over a ls) x' s few h = none_some s

  pub star_is : (row : Row) → NodeIn b.row b.here.operand 5 0 row → PieceIs b a_star (bed row b.here b.around b.«open»)
  star_is row n = record { is = go }
    where
      go : (field : TextProgram → ℕ) (x x' : Parsing) → step_piece x a_star ≡ some x' → FewNodesRead x' → Bedded field x b → Bedded field x' (bed row b.here b.around b.«open»)
      go field (wants w l ls) x' s few h = none_some s
      go field (in_front q ls) x' s few h = none_some s
      go field (after e l ls) x' s few h = led field (after (node none none (star e)) l ls) x' (bed row b.here b.around b.«open») s few (λ small.
          record {
            begun = tt;
            few_open = h.few_open;
            laid = n.is (up_to_operand field l ls) (tree_nodes field e) h.laid (ap (λ p. p.operand) h.here_is) (few_after field (node none none (star e)) l ls small);
            here_is = h.here_is;
            around_are = h.around_are;
          })
      go field (behind q f k ls) x' s few h = none_some s
      go field (over e ls) x' s few h = none_some s

  pub dot_is : (row : Row) → NodeIn b.row b.here.cat 3 0 row
      → PieceIs b a_dot (bed row (shifted b.here b.here.cat row.length) b.around b.«open»)
  dot_is row n = record { is = go }
    where
      go : (field : TextProgram → ℕ) (x x' : Parsing) → step_piece x a_dot ≡ some x' → FewNodesRead x' → Bedded field x b
          → Bedded field x' (bed row (shifted b.here b.here.cat row.length) b.around b.«open»)
      go field (wants w l ls) x' s few h = none_some s
      go field (in_front q ls) x' s few h = none_some s
      go field (after e l ls) x' s few h =
          let m = expression_level l.before l.alt_left (some (joined_cat l.cat_left e)) in
          led field (wants false m ls) x' (bed row (shifted b.here b.here.cat row.length) b.around b.«open») s few (λ small.
          let laid = n.is (up_to_cat field l ls) (tree_nodes field (joined_cat l.cat_left e)) (lays_as (from_cat field l ls e) h.laid) (ap (λ p. p.cat) h.here_is) (few_wants field m ls small) in
          record {
            begun = tt;
            few_open = h.few_open;
            laid = laid;
            here_is = ap (λ p. shifted p p.cat row.length) h.here_is ∙ ap (shifted (pair_at field l ls) (length (up_to_cat field l ls))) laid.length_is;
            around_are = h.around_are;
          })
      go field (behind q f k ls) x' s few h = none_some s
      go field (over e ls) x' s few h = none_some s

  pub bar_is : (row : Row) → NodeIn b.row b.here.union 4 0 row
      → PieceIs b a_bar (bed row (shifted b.here row.length row.length) b.around b.«open»)
  bar_is row n = record { is = go }
    where
      go : (field : TextProgram → ℕ) (x x' : Parsing) → step_piece x a_bar ≡ some x' → FewNodesRead x' → Bedded field x b
          → Bedded field x' (bed row (shifted b.here row.length row.length) b.around b.«open»)
      go field (wants w l ls) x' s few h = none_some s
      go field (in_front q ls) x' s few h = none_some s
      go field (after e l ls) x' s few h =
          let m = expression_level l.before (some (whole_expression l e)) none in
          led field (wants false m ls) x' (bed row (shifted b.here row.length row.length) b.around b.«open») s few (λ small.
          let end = append-nil (up_to_cat field m ls) in
          let laid = n.is (up_to_union field ls) (tree_nodes field (whole_expression l e)) (lays_as (from_union field l ls e) h.laid) (ap (λ p. p.union) h.here_is)
          (subst (λ u. length u ≤ most_bed_bytes) end (few_wants field m ls small)) in
          let operand : row.length ≡ length (up_to_operand field m ls) = laid.length_is ∙ ap length (sym end) in
          record {
            begun = tt;
            few_open = h.few_open;
            laid = lays_as (sym end) laid;
            here_is = ap (λ p. shifted p row.length row.length) h.here_is ∙ ap₂ (shifted (pair_at field l ls)) laid.length_is operand;
            around_are = h.around_are;
          })
      go field (behind q f k ls) x' s few h = none_some s
      go field (over e ls) x' s few h = none_some s

  -- as many pairs around as levels
  open_is : (field : TextProgram → ℕ) (x : Parsing) → Bedded field x b → b.«open» ≡ length (levels_of x)
  open_is field x h = sym (stacked_length b.around b.«open») ∙ ap length h.around_are ∙ pairs_length field (levels_of x)

  -- a parenthesis: where one more pair is allowed, and where it is not
  opened_led : (field : TextProgram → ℕ) (l : ExpressionLevel) (ls : List ExpressionLevel) (x' : Parsing) (r : Bed) (o : Bool) → expression_opened o l ls ≡ some x' → (o ≡ true → Bedded field (wants true fresh_expression (l ∷ ls)) r) → Bedded field x' r
  opened_led field l ls x' r true s h = subst (λ z. Bedded field z r) (some_same s) (h refl)
  opened_led field l ls x' r false s h = none_some s

  open_piece : (r : Bed) → ((field : TextProgram → ℕ) (w : Bool) (l : ExpressionLevel) (ls : List ExpressionLevel) → Bedded field (wants w l ls) b → ltb (length ls) parentheses ≡ true → Bedded field (wants true fresh_expression (l ∷ ls)) r) → PieceIs b an_open r
  open_piece r h = record { is = go }
    where
      go : (field : TextProgram → ℕ) (x x' : Parsing) → step_piece x an_open ≡ some x' → FewNodesRead x' → Bedded field x b → Bedded field x' r
      go field (wants w l ls) x' s few d = opened_led field l ls x' r (ltb (length ls) parentheses) s (h field w l ls d)
      go field (in_front q ls) x' s few d = none_some s
      go field (after e l ls) x' s few d = none_some s
      go field (behind q f k ls) x' s few d = none_some s
      go field (over e ls) x' s few d = none_some s

  pub opened_is : (begun : Pair) → b.«open» < 32 → length b.around ≡ 32 → begun ≡ just_opened b.row.length → PieceIs b an_open (bed b.row begun (set b.around b.«open» b.here) (b.«open» + 1))
  opened_is begun room full new = open_piece (bed b.row begun (set b.around b.«open» b.here) (b.«open» + 1)) (λ field w l ls h t.
      record {
        begun = refl;
        few_open = omega (arith, room);
        laid = lays_as (sym (fresh_operand field (l ∷ ls))) h.laid;
        here_is = new ∙ fresh_pair field (l ∷ ls) b.row.length h.laid.length_is;
        around_are = stacked_push b.around b.«open» b.here (omega (arith, room, full))
            ∙ ap (λ p. p ∷ stacked b.around b.«open») h.here_is
            ∙ ap (λ ps. pair_at field l ls ∷ ps) h.around_are;
      })

  pub too_deep : 32 ≤ b.«open» → PieceIs b an_open b
  too_deep deep = open_piece b (λ field w l ls h t. absurd (
      let n = open_is field (wants w l ls) h in
      let f = le-ltb (length ls) parentheses (omega (arith, n, deep)) in
      let z : true ≡ false = sym t ∙ f in
      let y : ◌≡◌ {A = ℕ} 0 1 = cc in
      omega arith))

  -- the program in front: there is one, or there is none
  unfronted : (o : Option TextProgram) (e e' : Tree) → present o ≡ false → fronted o e ≡ some e' → e ≡ e'
  unfronted none (node f g k) e' p s = some_same s
  unfronted (some q) e e' p s = absurd (let z : ◌≡◌ {A = ℕ} 0 1 = cc in omega arith)

  with_front : (field : TextProgram → ℕ) (u : List ℕ) (o : Option TextProgram) (e e' : Tree) (row row' : Row) → present o ≡ true → fronted o e ≡ some e'
      → FieldIn row (length u + 2) (field_of field o % 256) (field_of field o / 256) row' → Lays (u ++ tree_nodes field e) row → Lays (u ++ tree_nodes field e') row'
  with_front field u none e e' row row' p s n h = absurd (let z : ◌≡◌ {A = ℕ} 0 1 = cc in omega arith)
  with_front field u (some q) (node none g k) e' row row' p s n h =
      let two : length u + 2 ≡ length (u ++ (kind k ∷ argument k ∷ [])) = sym (length-append u (kind k ∷ argument k ∷ [])) in
      let laid = n.is (u ++ (kind k ∷ argument k ∷ [])) (word (field_of field g) (form_nodes field k)) 255 255 (lays_as (first_apart field u none g k) h) two in
      lays_as (sym (first_apart field u (some q) g k) ∙ ap (λ t. u ++ tree_nodes field t) (some_same s)) laid
  with_front field u (some q) (node (some f) g k) e' row row' p s n h = none_some s

  pub settled_plain : (begun : Pair) → begun ≡ just_opened b.here.union → b.here.fronted ≡ false → SettledIs b (bed b.row begun b.around b.«open»)
  settled_plain begun' new plain = record {
    some_held = held;
    none_held = λ field l ls h. record {
      begun = tt;
      few_open = h.few_open;
      laid = lays_as (ap (λ m. up_to_operand field m ls) h.begun ∙ fresh_operand field ls) h.laid;
      here_is = new ∙ fresh_pair field ls b.here.union (ap (λ p. p.union) h.here_is);
      around_are = h.around_are;
    };
  }
    where
      held : (field : TextProgram → ℕ) (x : Parsing) (e : Tree) → held_in x ≡ some e → Bedded field x b → Bedded field (over e (levels_of x)) (bed b.row begun' b.around b.«open»)
      held field (wants w l ls) e s h = none_some s
      held field (in_front q ls) e s h = none_some s
      held field (after a l ls) e s h =
          let same = unfronted l.before (whole_expression l a) e (sym (ap (λ p. p.fronted) h.here_is) ∙ plain) s in
          record {
            begun = tt;
            few_open = h.few_open;
            laid = lays_as (from_union field l ls a ∙ ap (λ t. up_to_union field ls ++ tree_nodes field t) same) h.laid;
            here_is = new ∙ fresh_pair field ls b.here.union (ap (λ p. p.union) h.here_is);
            around_are = h.around_are;
          }
      held field (behind q f k ls) e s h = none_some s
      held field (over a ls) e s h = record {
        begun = tt;
        few_open = h.few_open;
        laid = lays_as (ap (λ t. up_to_union field ls ++ tree_nodes field t) (some_same s)) h.laid;
        here_is = new ∙ fresh_pair field ls b.here.union (ap (λ p. p.union) h.here_is);
        around_are = h.around_are;
      }

  pub settled_fronted : (row : Row) (begun : Pair) → begun ≡ just_opened b.here.union → b.here.fronted ≡ true → FieldIn b.row (b.here.union + 2) b.here.low b.here.high row → SettledIs b (bed row begun b.around b.«open»)
  settled_fronted row begun' new there n = record {
    some_held = held;
    none_held = λ field l ls h. absurd (let p : present l.before ≡ true = sym (ap (λ p. p.fronted) h.here_is) ∙ there in let q : false ≡ true = sym (ap (λ m. present m.before) h.begun) ∙ p in let z : ◌≡◌ {A = ℕ} 0 1 = cc in omega arith);
  }
    where
      held : (field : TextProgram → ℕ) (x : Parsing) (e : Tree) → held_in x ≡ some e → Bedded field x b → Bedded field (over e (levels_of x)) (bed row begun' b.around b.«open»)
      held field (wants w l ls) e s h = none_some s
      held field (in_front q ls) e s h = none_some s
      held field (after a l ls) e s h =
          let put : FieldIn b.row (length (up_to_union field ls) + 2) (field_of field l.before % 256) (field_of field l.before / 256) row = subst (λ p. FieldIn b.row (p.union + 2) p.low p.high row) h.here_is n in
          record {
            begun = tt;
            few_open = h.few_open;
            laid = with_front field (up_to_union field ls) l.before (whole_expression l a) e b.row row (sym (ap (λ p. p.fronted) h.here_is) ∙ there) s put (lays_as (from_union field l ls a) h.laid);
            here_is = new ∙ fresh_pair field ls b.here.union (ap (λ p. p.union) h.here_is);
            around_are = h.around_are;
          }
      held field (behind q f k ls) e s h = none_some s
      held field (over a ls) e s h = absurd (let p : false ≡ true = sym (ap (λ p. p.fronted) h.here_is) ∙ there in let z : ◌≡◌ {A = ℕ} 0 1 = cc in omega arith)

  -- a brace: the program in front, or behind
  pub braced_is : (r : Bed) → SettledIs b r → PieceIs b a_brace r
  braced_is r n = record { is = go }
    where
      back : (field : TextProgram → ℕ) (x x' : Parsing) (o : Option Tree) → held_in x ≡ o → backed o (levels_of x) ≡ some x' → Bedded field x b → Bedded field x' r
      back field x x' none e s h = none_some s
      back field x x' (some (node f none k)) e s h =
          let d = n.some_held field x (node f none k) e h in
          subst (λ z. Bedded field z r) (some_same s) (record { begun = tt; few_open = d.few_open; laid = d.laid; here_is = d.here_is; around_are = d.around_are })
      back field x x' (some (node f (some g) k)) e s h = none_some s

      go : (field : TextProgram → ℕ) (x x' : Parsing) → step_piece x a_brace ≡ some x' → FewNodesRead x' → Bedded field x b → Bedded field x' r
      go field (wants true l ls) x' s few h = subst (λ z. Bedded field z r) (some_same s) (n.none_held field l ls h)
      go field (wants false l ls) x' s few h = none_some s
      go field (in_front q ls) x' s few h = none_some s
      go field (after e l ls) x' s few h = back field (after e l ls) x' (fronted l.before (whole_expression l e)) refl s h
      go field (behind q f k ls) x' s few h = none_some s
      go field (over e ls) x' s few h = none_some s

  -- a closing parenthesis: from behind the pair's program to the pair around
  close_piece : (c r : Bed) → SettledIs b c → ((field : TextProgram → ℕ) (e : Tree) (l : ExpressionLevel) (ls : List ExpressionLevel) → Bedded field (over e (l ∷ ls)) c → Bedded field (after e l ls) r) → PieceIs b a_close r
  close_piece c r n h = record { is = go }
    where
      shut : (field : TextProgram → ℕ) (x x' : Parsing) (ls : List ExpressionLevel) (o : Option Tree) → levels_of x ≡ ls → held_in x ≡ o → expression_closed ls o ≡ some x' → Bedded field x b → Bedded field x' r
      shut field x x' ls none le e s d = none_some s
      shut field x x' [] (some a) le e s d = none_some s
      shut field x x' (l ∷ ls) (some a) le e s d = subst (λ z. Bedded field z r) (some_same s) (h field a l ls (subst (λ m. Bedded field (over a m) c) le (n.some_held field x a e d)))

      go : (field : TextProgram → ℕ) (x x' : Parsing) → step_piece x a_close ≡ some x' → FewNodesRead x' → Bedded field x b → Bedded field x' r
      go field (wants w l ls) x' s few d = none_some s
      go field (in_front q ls) x' s few d = none_some s
      go field (after e l ls) x' s few d = shut field (after e l ls) x' ls (fronted l.before (whole_expression l e)) refl refl s d
      go field (behind q f k ls) x' s few d = none_some s
      go field (over e ls) x' s few d = shut field (over e ls) x' ls (some e) refl refl s d

  pub closed_is : (c : Bed) → SettledIs b c → (c.«open» ≡ 0 → ⊥) → PieceIs b a_close (bed c.row (get_or c.around (c.«open» - 1) no_pair) c.around (c.«open» - 1))
  closed_is c n more = close_piece c (bed c.row (get_or c.around (c.«open» - 1) no_pair) c.around (c.«open» - 1)) n (λ field e l ls h.
      let p = sym (stacked_pop c.around c.«open» more) ∙ h.around_are in
      record { begun = tt; few_open = omega (arith, h.few_open); laid = h.laid; here_is = (cc); around_are = (cc) })

  pub closed_last : (c : Bed) → SettledIs b c → c.«open» ≡ 0 → PieceIs b a_close c
  closed_last c n last = close_piece c c n (λ field e l ls h. absurd (let p = sym (ap length (ap (stacked c.around) last)) ∙ ap length h.around_are in omega (arith, p)))

  pub closed_far : (c : Bed) → SettledIs b c → 32 < c.«open» → PieceIs b a_close c
  closed_far c n far = close_piece c c n (λ field e l ls h. absurd (omega (arith, h.few_open, far)))

  -- the tag's own closing parenthesis
  pub finished_is : (c : Bed) → SettledIs b c → FinishedIs b c.row
  finished_is c n = record { is = go }
    where
      ended : (field : TextProgram → ℕ) (x : Parsing) (ls : List ExpressionLevel) (o : Option Tree) (e : Option Tree) → levels_of x ≡ ls → held_in x ≡ o → whole_value ls o ≡ some e → Bedded field x b → Lays (content_nodes field e) c.row
      ended field x [] none e le s v d = none_some v
      ended field x [] (some a) e le s v d =
          let h = n.some_held field x a s d in
          lays_as (ap (λ m. up_to_union field m ++ tree_nodes field a) le ∙ ap (content_nodes field) (some_same v)) h.laid
      ended field x (l ∷ ls) o e le s v d = none_some v

      go : (field : TextProgram → ℕ) (x : Parsing) (e : Option Tree) → value_of_content x ≡ some e → Bedded field x b → Lays (content_nodes field e) c.row
      go field (wants true l []) e v d = lays_as (ap (content_nodes field) (some_same v)) (n.none_held field l [] d).laid
      go field (wants true l (m ∷ ls)) e v d = none_some v
      go field (wants false l ls) e v d = none_some v
      go field (in_front q ls) e v d = none_some v
      go field (after a l ls) e v d = ended field (after a l ls) ls (fronted l.before (whole_expression l a)) e refl refl v d
      go field (behind q f k ls) e v d = none_some v
      go field (over a ls) e v d = ended field (over a ls) ls (some a) e refl refl v d
