-- A text spells one row of tokens that the machine takes, so it writes one thing at most. Assumes nothing.
use mathlib.Core.Path.{◌≡◌, refl, sym, ◌∙◌, ap, subst}
use mathlib.Core.Logic.{◌⊎◌, inl, inr, ⊎_elim}
use mathlib.Core.Bool.{Bool, true, false}
use mathlib.Core.Option.{Option, none, some}
use mathlib.Core.List.{List, [], ◌∷◌, ◌++◌, append_assoc, append-nil, append_cancel_left, head-eq_of_cons-eq, tail-eq_of_cons-eq}
use Prim.Native.Nat.{ℕ}
use native.Mathlib.Omega.{arith}
use Rattle.text.specs.Names.{blank, All, name_first, name_byte, Name}
use Rattle.text.proofs.Shapes.{cons≢[]}
use Rattle.notation.specs.Rules.{Rules}
use Rattle.notation.specs.Limits.{WithinLimits}
use Rattle.notation.specs.Tokens.{TextToken, name, string, sign, BRACE, token_bytes, TagName}
use Rattle.notation.specs.Gaps.{in_comment, Gap, white, comment, Ending}
use Rattle.notation.specs.Spelled.{joins, MayFollow, TypedAs, end, token}
use Rattle.notation.specs.Productions.{RulesAre}
use Rattle.notation.specs.RuleText.{RuleText}
use Rattle.reading.specs.Machine.{and_then, walk}
use Rattle.reading.specs.Rules.{Progress, beginning, step_rules, rules}
use Rattle.telling.specs.Promises.{OneRules}
use Rattle.notation.proofs.Strings.{same_string}
use Rattle.reading.proofs.Telling.{none≢some, cases, writes_one}
use Rattle.reading.proofs.Rules.{reads_rules}
use Rattle.telling.proofs.Acceptable.{Proper, Fine, taken_is_fine, WantsTag, name_wants_tag, tag_place}
use Rattle.telling.proofs.Bytes.{OpenTail, InGap, ending_was}
use Rattle.telling.proofs.Lexical.{Stops, stops_of, same_name, lexed, View, a_name, a_string, lexical, view, Solid, solid}

pub clash : {A : Type 0} → ◌≡◌ {A = Bool} true false → A
clash e = absurd (let z : ◌≡◌ {A = ℕ} 0 1 = cc in omega arith)

-- a comment ends at its first LF
pub comment_one : (c d x y : List ℕ) → All in_comment c → All in_comment d → c ++ 10 ∷ x ≡ d ++ 10 ∷ y → x ≡ y
comment_one [] [] x y a b e = tail-eq_of_cons-eq e
comment_one [] (k ∷ d) x y a b e = clash (sym (subst (λ z. in_comment z ≡ true) (sym (head-eq_of_cons-eq e)) b.0))
comment_one (k ∷ c) [] x y a b e = clash (sym (subst (λ z. in_comment z ≡ true) (head-eq_of_cons-eq e) a.0))
comment_one (k ∷ c) (l ∷ d) x y a b e = comment_one c d x y a.1 b.1 (tail-eq_of_cons-eq e)

pub no_line_end : (c d y : List ℕ) → All in_comment c → c ≡ d ++ 10 ∷ y → ⊥
no_line_end [] [] y a e = cons≢[] (sym e)
no_line_end [] (k ∷ d) y a e = cons≢[] (sym e)
no_line_end (k ∷ c) [] y a e = clash (sym (subst (λ z. in_comment z ≡ true) (head-eq_of_cons-eq e) a.0))
no_line_end (k ∷ c) (l ∷ d) y a e = no_line_end c d y a.1 (tail-eq_of_cons-eq e)

pub white_solid : (b : ℕ) (l x : List ℕ) → blank b ≡ true → Solid x → b ∷ l ≡ x → ⊥
white_solid b l x h s e = let same : b ≡ s.lead = head-eq_of_cons-eq (e ∙ s.are) in clash (sym h ∙ ap blank same ∙ s.no_blank)

pub sharp_solid : (l x : List ℕ) → Solid x → 35 ∷ l ≡ x → ⊥
sharp_solid l x s e = s.no_sharp (sym (head-eq_of_cons-eq (e ∙ s.are)))

pub sharp_white : (b : ℕ) → b ≡ 35 → blank b ≡ true → ⊥
sharp_white b e h = clash (sym (subst (λ z. blank z ≡ true) e h))

-- a gap ends where a token begins
pub gap_one : {g h : List ℕ} → Gap g → Gap h → (x y : List ℕ) → Solid x → Solid y → g ++ x ≡ h ++ y → x ≡ y
gap_one Gap.none Gap.none x y s t e = e
gap_one Gap.none (white {b = b} {g = l} i j) x y s t e = absurd (white_solid b (l ++ y) x i s (sym e))
gap_one Gap.none (comment c {g = l} a j) x y s t e = absurd (sharp_solid ((c ++ 10 ∷ l) ++ y) x s (sym e))
gap_one (white {b = b} {g = l} i j) Gap.none x y s t e = absurd (white_solid b (l ++ x) y i t e)
gap_one (white i j) (white i' j') x y s t e = gap_one j j' x y s t (tail-eq_of_cons-eq e)
gap_one (white {b = b} i j) (comment c a j') x y s t e = absurd (sharp_white b (head-eq_of_cons-eq e) i)
gap_one (comment c {g = l} a j) Gap.none x y s t e = absurd (sharp_solid ((c ++ 10 ∷ l) ++ x) y t e)
gap_one (comment c a j) (white {b = b} i j') x y s t e = absurd (sharp_white b (sym (head-eq_of_cons-eq e)) i)
gap_one (comment c {g = l} a j) (comment d {g = m} b j') x y s t e =
    gap_one j j' x y s t (comment_one c d (l ++ x) (m ++ y) a b (sym (append_assoc c (10 ∷ l) x) ∙ tail-eq_of_cons-eq e ∙ append_assoc d (10 ∷ m) y))

-- and a text's end is no token
tail_solid : (w x : List ℕ) → OpenTail w → Solid x → w ≡ x → ⊥
tail_solid [] x h s e = cons≢[] (sym (e ∙ s.are))
tail_solid (b ∷ c) x h s e = s.no_sharp (sym (head-eq_of_cons-eq (e ∙ s.are)) ∙ h.0)

pub gap_no_end : {g h : List ℕ} → Gap g → Gap h → (w y : List ℕ) → OpenTail w → Solid y → g ++ w ≡ h ++ y → ⊥
gap_no_end Gap.none Gap.none w y o t e = tail_solid w y o t e
gap_no_end Gap.none (white {b = b} i j) [] y o t e = cons≢[] (sym e)
gap_no_end Gap.none (white {b = b} i j) (k ∷ w) y o t e = sharp_white b (sym (head-eq_of_cons-eq e) ∙ o.0) i
gap_no_end Gap.none (comment c a j) [] y o t e = cons≢[] (sym e)
gap_no_end Gap.none (comment c {g = l} a j) (k ∷ w) y o t e = no_line_end w c (l ++ y) o.1 (tail-eq_of_cons-eq e ∙ append_assoc c (10 ∷ l) y)
gap_no_end (white {b = b} {g = l} i j) Gap.none w y o t e = white_solid b (l ++ w) y i t e
gap_no_end (white i j) (white i' j') w y o t e = gap_no_end j j' w y o t (tail-eq_of_cons-eq e)
gap_no_end (white {b = b} i j) (comment c a j') w y o t e = sharp_white b (head-eq_of_cons-eq e) i
gap_no_end (comment c {g = l} a j) Gap.none w y o t e = sharp_solid ((c ++ 10 ∷ l) ++ w) y t e
gap_no_end (comment c a j) (white {b = b} i j') w y o t e = sharp_white b (sym (head-eq_of_cons-eq e)) i
gap_no_end (comment c {g = l} a j) (comment d {g = m} b j') w y o t e =
    gap_no_end j j' w y o t (comment_one c d (l ++ w) (m ++ y) a b (sym (append_assoc c (10 ∷ l) w) ∙ tail-eq_of_cons-eq e ∙ append_assoc d (10 ∷ m) y))

pub solid_append : (x r : List ℕ) → Solid x → Solid (x ++ r)
solid_append x r s = record { lead = s.lead; others = s.others ++ r; are = ap (λ l. l ++ r) s.are; no_blank = s.no_blank; no_sharp = s.no_sharp }

-- a { begins no name
brace_name : (n r q : List ℕ) → Name n → n ++ r ≡ 123 ∷ q → ⊥
brace_name [] r q h e = h
brace_name (x ∷ n) r q h e = clash (sym (subst (λ z. name_first z ≡ true) (head-eq_of_cons-eq e) h.0))

-- one token at one place of one state
module _ (s : Progress) where
  name_other : (z z' : Progress) (t u : TextToken) (n r q : List ℕ) → t ≡ name n → TagName n → step_rules s t ≡ some z → step_rules s u ≡ some z' → token_bytes t ++ r ≡ token_bytes u ++ q
      → (((m : List ℕ) → u ≡ name m → ⊥)) → ⊥
  name_other z z' t u n r q e h i j k f =
      ⊎_elim (λ (x : (m : List ℕ) × (u ≡ name m)). f x.0 x.1)
      (λ (x : u ≡ sign BRACE). brace_name n r q h.a_name (sym (ap (λ y. token_bytes y ++ r) e) ∙ k ∙ ap (λ y. token_bytes y ++ q) x))
      (tag_place s z' u (name_wants_tag s z n (sym (ap (step_rules s) e) ∙ i)) j)

  pub one_token : (z z' : Progress) (t u : TextToken) (r q : List ℕ) → step_rules s t ≡ some z → step_rules s u ≡ some z' → MayFollow t r → MayFollow u q → token_bytes t ++ r ≡ token_bytes u ++ q → t ≡ u
  one_token z z' t u r q i j m k e = on (view t (taken_is_fine s z t i).proper) (view u (taken_is_fine s z' u j).proper)
    where
      on : View t → View u → t ≡ u
      on (a_name n f h) (a_name l g h') =
          let same = same_name n l r q h.a_name h'.a_name (stops_of name_byte (name n) (λ b. refl) r (subst (λ x. MayFollow x r) f m)) (stops_of name_byte (name l) (λ b. refl) q (subst (λ x. MayFollow x q) g k))
          (sym (ap (λ x. token_bytes x ++ r) f) ∙ e ∙ ap (λ x. token_bytes x ++ q) g) in
          f ∙ ap name same ∙ sym g
      on (a_name n f h) (a_string cs g) = absurd (name_other z z' t u n r q f h i j e (λ l x. let y : ◌≡◌ {A = ℕ} 0 1 = cc in omega arith))
      on (a_name n f h) (lexical g x y) = absurd (name_other z z' t u n r q f h i j e y)
      on (a_string cs f) (a_name l g h) = absurd (name_other z' z u t l q r g h j i (sym e) (λ n x. let y : ◌≡◌ {A = ℕ} 0 1 = cc in omega arith))
      on (a_string cs f) (a_string ds g) =
          f ∙ ap string (same_string cs ds r q (tail-eq_of_cons-eq (sym (ap (λ x. token_bytes x ++ r) f) ∙ e ∙ ap (λ x. token_bytes x ++ q) g))) ∙ sym g
      on (a_string cs f) (lexical g x y) = absurd (x [] (sym (g q k) ∙ ap lexed (sym e) ∙ ap (λ w. lexed (token_bytes w ++ r)) f))
      on (lexical f x y) (a_name l g h) = absurd (name_other z' z u t l q r g h j i (sym e) y)
      on (lexical f x y) (a_string ds g) = absurd (x [] (sym (f r m) ∙ ap lexed e ∙ ap (λ w. lexed (token_bytes w ++ q)) g))
      on (lexical f x y) (lexical g x' y') = sym (f r m) ∙ ap lexed e ∙ g q k

-- a walk that was taken, and its first step
pub first_step : (s z : Progress) (t : TextToken) (ts : List TextToken) → walk step_rules s (t ∷ ts) ≡ some z → (s' : Progress) × (step_rules s t ≡ some s') × (walk step_rules s' ts ≡ some z)
first_step s z t ts e = on (cases (step_rules s t))
  where
    on : (step_rules s t ≡ none) ⊎ ((s' : Progress) × (step_rules s t ≡ some s')) → (s' : Progress) × (step_rules s t ≡ some s') × (walk step_rules s' ts ≡ some z)
    on (inl h) = absurd (none≢some (ap (λ o. and_then o (λ y. walk step_rules y ts)) h) e)
    on (inr (s', h)) = (s', h, sym (ap (λ o. and_then o (λ y. walk step_rules y ts)) h) ∙ e)

pub end_no_token : (x g y : List ℕ) → Ending x → Gap g → Solid y → x ≡ g ++ y → ⊥
end_no_token x g y e h s i =
    let w = ending_was e x [] (sym (append-nil x)) in
    gap_no_end w.3.0 h w.1 y w.3.1 s (sym w.2 ∙ i)

pub token_solid : (s s' : Progress) (t : TextToken) (r : List ℕ) → step_rules s t ≡ some s' → Solid (token_bytes t ++ r)
token_solid s s' t r h = solid_append (token_bytes t) r (solid t (taken_is_fine s s' t h).proper)

-- two spellings of one text
pub one_row : {ts us : List TextToken} {x y : List ℕ} → TypedAs ts x → TypedAs us y → (s z z' : Progress) → x ≡ y → walk step_rules s ts ≡ some z → walk step_rules s us ≡ some z' → ts ≡ us
one_row (end e) (end f) s z z' i j k = refl
one_row (end {e = x} e) (token {g = g} {rest = r} {ts = us} t h m sp) s z z' i j k =
    let n = first_step s z' t us k in
    absurd (end_no_token x g (token_bytes t ++ r) e h (token_solid s n.0 t r n.1) i)
one_row (token {g = g} {rest = r} {ts = ts} t h m sp) (end {e = y} e) s z z' i j k =
    let n = first_step s z t ts j in
    absurd (end_no_token y g (token_bytes t ++ r) e h (token_solid s n.0 t r n.1) (sym i))
one_row (token {g = g} {rest = r} {ts = ts} t h m sp) (token {g = g'} {rest = q} {ts = us} u h' m' sp') s z z' i j k =
    let n = first_step s z t ts j in
    let n' = first_step s z' u us k in
    let e = gap_one h h' (token_bytes t ++ r) (token_bytes u ++ q) (token_solid s n.0 t r n.1) (token_solid s n'.0 u q n'.1) i in
    let same : t ≡ u = one_token s n.0 n'.0 t u r q n.1 n'.1 m m' e in
    let rest_same : r ≡ q = append_cancel_left (token_bytes u) r q (ap (λ y. token_bytes y ++ r) (sym same) ∙ e) in
    let there : n.0 ≡ n'.0 = same_state_lem s n.0 n'.0 t u same n.1 n'.1 in
    let more = one_row sp sp' n'.0 z z' rest_same (subst (λ y. walk step_rules y ts ≡ some z) there n.2) n'.2 in
    cc
  where
    same_state_lem : (s a b : Progress) (t u : TextToken) → t ≡ u → step_rules s t ≡ some a → step_rules s u ≡ some b → a ≡ b
    same_state_lem s a b t u e i j = let f : ◌≡◌ {A = Option Progress} (some a) (some b) = sym i ∙ ap (step_rules s) e ∙ j in cc

pub one_rules : OneRules
one_rules text r q h k =
    let c = reads_rules.complete h.tokens r h.grammatical in
    let d = reads_rules.complete k.tokens q k.grammatical in
    let same = one_row h.spelled k.spelled beginning c.last d.last refl c.walked d.walked in
    writes_one TextToken Rules rules RulesAre WithinLimits reads_rules k.tokens r q (subst (λ ts. RulesAre ts r) same h.grammatical) k.grammatical
