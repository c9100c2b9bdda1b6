-- What is told of a text that is read token by token: 40, 41 with its byte, or the rules. Assumes nothing.
use mathlib.Core.Path.{◌≡◌, refl, sym, ◌∙◌, ap, ap₂, subst}
use mathlib.Core.Option.{Option, none, some}
use mathlib.Core.List.{List, [], ◌∷◌, ◌++◌, append_assoc, append-nil}
use Prim.Native.Nat.{ℕ, zero, suc, ◌+◌}
use native.Mathlib.Omega.{arith}
use lib.ListN.{length, take, drop, length-append}
use lib.Seq.{take-append_seam, drop-append_seam, drop-drop}
use Rattle.notation.specs.Rules.{Rules}
use Rattle.notation.specs.Tokens.{TextToken, token_bytes}
use Rattle.notation.specs.Productions.{RulesAre}
use Rattle.notation.specs.RuleText.{RuleText}
use Rattle.encoding.specs.Mentions.{Mention, in_rules}
use Rattle.encoding.specs.Encoded.{Room}
use Rattle.reading.specs.Machine.{and_then, walk}
use Rattle.reading.specs.Rules.{Progress, beginning, step_rules, value_of_rules}
use Rattle.reading.proofs.Telling.{none≢some, walk_on}
use Rattle.reading.proofs.Rules.{reads_rules}
use Rattle.verdicts.specs.Judged.{Goes, Verdict, writes, refused_at, later, Judged, ended, early, token, stuck, no_comment}
use Rattle.verdicts.proofs.Judging.{judged_right}
use Rattle.mentions.specs.SoFar.{so_far, Tidy}
use Rattle.mentions.proofs.Rules.{begins_all}
use Rattle.writing.specs.TooMany.{last_byte_of, Placed, up_to, RoomFor, NthByte, ByteOf41}
use Rattle.writing.specs.Written.{no_rules, too_many}
use Rattle.ledgers.specs.Trodden.{Trodden, TokenAt, LeadsToRules}
use Rattle.ledgers.specs.Space.{SpaceFor}
use Rattle.ledgers.specs.Promises.{TroddenFirst, TroddenOn, LeadsThrough, EndedWith, TellsRules, Tells40, Tells41, RoomIsSpace}
use Rattle.ledgers.proofs.Counting.{Counted, room_counted, counted_room, room_space, Walked, walked_counted}

pub later_none : (v : Verdict) → later 0 v ≡ v
later_none (writes r) = refl
later_none (refused_at k) = ap refused_at (omega arith)

pub later_twice : (m n : ℕ) (v : Verdict) → later m (later n v) ≡ later (m + n) v
later_twice m n (writes r) = refl
later_twice m n (refused_at k) = ap refused_at (omega arith)

pub trodden_first : TroddenFirst
trodden_first text = record {
  tokens = [];
  lasts = [];
  as_many = refl;
  walked = refl;
  placed = λ ts ks p. p;
  judged = λ v j. subst (Judged beginning text) (sym (later_none v)) j;
}

-- the text behind a token
module _ (text : List ℕ) (from at long : ℕ) (s s' : Progress) (t : TextToken) (a : TokenAt s (drop from text) at long t s') where
  pub rest_is : drop (from + (at + long)) text ≡ a.rest
  rest_is =
      sym (drop-drop (at + long) from text)
      ∙ ap₂ (λ (n : ℕ) (x : List ℕ). drop n x) (ap₂ ◌+◌ a.at_is a.long_is) a.are
      ∙ sym (drop-drop (length (token_bytes t)) (length a.gap) (a.gap ++ (token_bytes t ++ a.rest)))
      ∙ ap (λ (x : List ℕ). drop (length (token_bytes t)) x) (drop-append_seam a.gap (token_bytes t ++ a.rest))
      ∙ drop-append_seam (token_bytes t) a.rest

  placed_on : (ts : List TextToken) (ks : List ℕ) → Placed (from + (at + long)) ts (drop (from + (at + long)) text) ks → Placed from (t ∷ ts) (drop from text) ((from + at + last_byte_of t) ∷ ks)
  placed_on ts ks p =
      let far : from + (at + long) ≡ from + length a.gap + length (token_bytes t) = omega (arith, a.at_is, a.long_is) in
      let last : from + length a.gap + last_byte_of t ≡ from + at + last_byte_of t = omega (arith, a.at_is) in
      subst (λ (k : ℕ). Placed from (t ∷ ts) (drop from text) (k ∷ ks)) last
      (Placed.token t a.are a.is_gap a.follows (subst (λ (n : ℕ). Placed n ts a.rest ks) far (subst (λ (x : List ℕ). Placed (from + (at + long)) ts x ks) rest_is p)))

  pub judged_on : (v : Verdict) → Judged s' (drop (from + (at + long)) text) v → Judged s (drop from text) (later (at + long) v)
  judged_on v j =
      let far : length a.gap + length (token_bytes t) ≡ at + long = omega (arith, a.at_is, a.long_is) in
      subst (λ (n : ℕ). Judged s (drop from text) (later n v)) far (Judged.token t a.are a.is_gap a.goes a.follows (subst (λ (x : List ℕ). Judged s' x v) rest_is j))

  one_further : (us : List TextToken) → walk step_rules beginning us ≡ some s → walk step_rules beginning (us ++ t ∷ []) ≡ some s'
  one_further us w = walk_on step_rules beginning s us (t ∷ []) w ∙ ap (λ o. and_then o (λ z. some z)) a.goes.taken

pub trodden_on : TroddenOn
trodden_on text from at long s s' t c a =
    let k : ℕ = from + at + last_byte_of t in
    record {
      tokens = c.tokens ++ t ∷ [];
      lasts = c.lasts ++ k ∷ [];
      as_many = omega (arith, c.as_many, length-append c.lasts (k ∷ []), length-append c.tokens (t ∷ []));
      walked = one_further text from at long s s' t a c.tokens c.walked;
      placed = λ ts ks p. subst (λ (x : List ℕ). Placed 0 ((c.tokens ++ t ∷ []) ++ ts) text x) (sym (append_assoc c.lasts (k ∷ []) ks))
          (subst (λ (us : List TextToken). Placed 0 us text (c.lasts ++ k ∷ ks)) (sym (append_assoc c.tokens (t ∷ []) ts)) (c.placed (t ∷ ts) (k ∷ ks) (placed_on text from at long s s' t a ts ks p)));
      judged = λ v j. subst (Judged beginning text) (later_twice from (at + long) v) (c.judged (later (at + long) v) (judged_on text from at long s s' t a v j));
    }

-- the tokens of a text that is judged to write rules
record Rest (s : Progress) (o : ℕ) (x : List ℕ) (r : Rules) : Type 0 where
  tokens : List TextToken
  lasts : List ℕ
  placed : Placed o tokens x lasts
  last : Progress
  walked : walk step_rules s tokens ≡ some last
  value : value_of_rules last ≡ some r

later_writes : (n : ℕ) (v : Verdict) (r : Rules) → later n v ≡ writes r → v ≡ writes r
later_writes n (writes q) r e = e
later_writes n (refused_at k) r e = absurd (let z : ◌≡◌ {A = ℕ} 0 1 = cc in omega arith)

rest_of : {s : Progress} {x : List ℕ} {v : Verdict} → Judged s x v → (r : Rules) → v ≡ writes r → (o : ℕ) → Rest s o x r
rest_of {s} (ended {r = q} e h) r w o = let same : q ≡ r = cc in record { tokens = []; lasts = []; placed = Placed.end e; last = s; walked = refl; value = h ∙ ap some same }
rest_of (early e h) r w o = absurd (let z : ◌≡◌ {A = ℕ} 0 1 = cc in omega arith)
rest_of (token {s = s} {s' = y} {g = g} {v = v} t e i k m j) r w o =
    let b = rest_of j r (later_writes (length g + length (token_bytes t)) v r w) (o + length g + length (token_bytes t)) in
    record {
      tokens = t ∷ b.tokens;
      lasts = (o + length g + last_byte_of t) ∷ b.lasts;
      placed = Placed.token t e i m b.placed;
      last = b.last;
      walked = ap (λ z. and_then z (λ y. walk step_rules y b.tokens)) k.taken ∙ b.walked;
      value = b.value;
    }
rest_of (stuck e i k h) r w o = absurd (let z : ◌≡◌ {A = ℕ} 0 1 = cc in omega arith)
rest_of (no_comment c y e i a b n) r w o = absurd (let z : ◌≡◌ {A = ℕ} 0 1 = cc in omega arith)

pub leads_through : LeadsThrough
leads_through s r d l = begins_all s l.last l.tokens r d l.walked l.value

pub tells_rules : TellsRules
tells_rules text from s r c j =
    let b = rest_of j r refl from in
    let h = judged_right text (writes r) (c.judged (writes r) j) in
    record { is_text = h; leads = record { tokens = b.tokens; last = b.last; walked = b.walked; value = b.value; within = h.within } }

pub leads_back : (s s' : Progress) (t : TextToken) (r : Rules) → step_rules s t ≡ some s' → LeadsToRules s' r → LeadsToRules s r
leads_back s s' t r e l = record {
  tokens = t ∷ l.tokens;
  last = l.last;
  walked = ap (λ z. and_then z (λ y. walk step_rules y l.tokens)) e ∙ l.walked;
  value = l.value;
  within = l.within;
}

pub tells_40 : Tells40
tells_40 text area from k s c j = no_rules (judged_right text (refused_at (from + k)) (c.judged (refused_at k) j))

nth_seam : (l : List ℕ) (n k : ℕ) (m : List ℕ) → length l ≡ n → NthByte (l ++ k ∷ m) n k
nth_seam [] n k m e = subst (λ (i : ℕ). NthByte (k ∷ m) i k) e refl
nth_seam (x ∷ l) zero k m e = absurd (omega arith)
nth_seam (x ∷ l) (suc n) k m e = nth_seam l n k m (omega arith)

-- the state behind a row of tokens, and what it has mentioned, from the beginning on
from_first : (ts : List TextToken) (s : Progress) → walk step_rules beginning ts ≡ some s → (Counted (so_far s) (up_to ts)) × Tidy s
from_first ts s w = let h = walked_counted beginning s ts tt w in (subst (λ (m : List Mention). Counted m (up_to ts)) (sym h.grown) h.counted, h.tidy)

pub trodden_tidy : (text : List ℕ) (from : ℕ) (s : Progress) → Trodden text from s → Tidy s
trodden_tidy text from s c = (from_first c.tokens s c.walked).1

pub tells_41 : Tells41
tells_41 text area from at long s s' t r c a j before no_more =
    let d = trodden_on text from at long s s' t c a in
    let b = rest_of j r refl (from + (at + long)) in
    let k : ℕ = from + at + last_byte_of t in
    let x = tells_rules text (from + (at + long)) s' r d j in
    let h = from_first c.tokens s c.walked in
    let us : List TextToken = c.tokens ++ t ∷ [] in
    let i = from_first us s' (one_further text from at long s s' t a c.tokens c.walked) in
    let more = leads_through s r h.1 (leads_back s s' t r a.goes.taken x.leads) in
    let more' = leads_through s' r i.1 x.leads in
    let tokens : List TextToken = c.tokens ++ t ∷ b.tokens in
    let front : take (length c.tokens) tokens ≡ c.tokens = take-append_seam c.tokens (t ∷ b.tokens) in
    let many : suc (length c.tokens) ≡ length us = omega (arith, length-append c.tokens (t ∷ [])) in
    let front' : take (suc (length c.tokens)) tokens ≡ us =
    ap₂ (λ (n : ℕ) (vs : List TextToken). take n vs) many (sym (append_assoc c.tokens (t ∷ []) b.tokens)) ∙ take-append_seam us b.tokens in
    too_many r x.is_text (λ o. no_more (room_space r (so_far s') more'.0 more'.1 o))
    (record {
      tokens = tokens;
      lasts = c.lasts ++ k ∷ b.lasts;
      placed = c.placed (t ∷ b.tokens) (k ∷ b.lasts) (placed_on text from at long s s' t a b.tokens b.lasts b.placed);
      grammatical = reads_rules.sound tokens b.last r
          (walk_on step_rules beginning s c.tokens (t ∷ b.tokens) c.walked ∙ ap (λ z. and_then z (λ y. walk step_rules y b.tokens)) a.goes.taken ∙ b.walked) b.value;
      number = length c.tokens;
      there = nth_seam c.lasts (length c.tokens) k b.lasts c.as_many;
      before = subst (λ (vs : List TextToken). RoomFor r (up_to vs)) (sym front) (room_counted r (so_far s) more.0 (up_to c.tokens) more.1 h.0 before);
      no_more = λ o. no_more (counted_room r (so_far s') more'.0 (up_to us) more'.1 i.0 (subst (λ (vs : List TextToken). RoomFor r (up_to vs)) front' o));
    })

pub room_is_space : RoomIsSpace
room_is_space s r e o = subst_room
  where
    subst_room : Room r
    subst_room =
        let o' = subst (SpaceFor r) (sym e) o in
        record { few_tags = o'.few_tags; short_programs = o'.short_programs; short_strings = o'.short_strings }
