-- A stretch is taken token by token: none yet, and one more.
-- Assumes nothing.
use mathlib.Core.Path.{◌≡◌, refl, sym, ap, ap₂, ◌∙◌, subst}
use mathlib.Core.Bool.{Bool, true, false, ◌&&◌}
use mathlib.Core.List.{List, [], ◌++◌, append-nil, append_assoc}
use Prim.Native.Nat.{ℕ, ◌+◌, ◌-◌, ◌≤◌}
use native.Mathlib.Nat.{add-zero}
use native.Mathlib.Omega.{arith}
use lib.ListN.{length, take, drop, length-append, length-take, take-append-drop}
use lib.Seq.{drop-drop, drop-append_seam, take-append_seam}
use Rattle.lent.specs.Put.{PutAs}
use Rattle.lent.proofs.Laws.{put_all, put_length, nothing_put}
use Rattle.text.specs.Names.{blank}
use Rattle.tokens.specs.declared.Cursor.{Cursor}
use Rattle.tokens.specs.declared.Event.TheVariants.{Character}
use Rattle.tokens.specs.declared.Answer.TheVariants.{Token}
use Rattle.tokens.specs.Tokens.{front, Means}
use Rattle.tokens.proofs.Streams.{token_moves}
use Rattle.output.specs.Escape.{Piece, escaped, render}
use Rattle.visits.proofs.Printing.{escaped_short}
use Rattle.runs.specs.Visits.{most_visits}
use Rattle.runs.specs.Machine.{Configuration, took, answered, run}
use Rattle.runs.specs.Spells.{literal, unless_blank, step_token, events_of_token}
use Rattle.calls.specs.Limits.{silent, output_of, taken, one_token}
use Rattle.calls.specs.Call.{after_writing, Runs, takes}
use Rattle.calls.proofs.Read.{read_plain}
use Rattle.calls.proofs.Steps.{one_takes}
use Rattle.steady.specs.Steady.{counting, shown}
use Rattle.stretches.specs.Stretched.{StretchedAs, BlanksAs}

pub shown_on : (c : ℕ) → shown true c ≡ escaped c
shown_on c = append-nil (escaped c)

pub shown_put : (c : ℕ) (on : Bool) (lent d : List ℕ) (at r : ℕ) → on ≡ true → PutAs true lent at (escaped c) d r → PutAs true lent at (shown on c) d r
shown_put c on lent d at r e p = subst (λ (w : List ℕ). PutAs true lent at w d r) (sym (ap (λ (b : Bool). shown b c) e ∙ shown_on c)) p

pub not_shown : (c : ℕ) (on : Bool) (lent : List ℕ) (at : ℕ) → on ≡ false → PutAs true lent at (shown on c) lent at
not_shown c on lent at e = subst (λ (b : Bool). PutAs true lent at (shown b c) lent at) (sym e) (nothing_put true lent at)

pub shown_short : (on : Bool) (c : ℕ) → length (shown on c) ≤ 5
shown_short true c = omega (arith, ap length (shown_on c), escaped_short c)
shown_short false c = omega arith

module _ (part : List ℕ) (from : ℕ) where
  module _ (on : Bool) (k n : ℕ) (lent : List ℕ) (put : ℕ) where
    pub none_yet : from ≤ length part → put ≤ length lent → n ≤ most_visits → StretchedAs part from on k n lent put (record { at = from; put = put; count = n }) lent
    none_yet h j g =
        record {
          forward = omega arith;
          within = h;
          room = j;
          long = refl;
          count = g;
          written = [];
          next = omega arith;
          left = sym (ap (λ (i : ℕ). take put lent ++ drop i lent) (add-zero put) ∙ take-append-drop put lent);
          rest = λ a m s more x c. c;
        }

    pub one_more : (at to count : ℕ) (d : List ℕ) → StretchedAs part from on k n lent put (record { at = at; put = to; count = count }) d → (c : ℕ) (next : Cursor) →
        Means (front part at) at (Token (Character c true) next) → count + k ≤ most_visits → to + 5 ≤ length lent → (d' : List ℕ) (to' : ℕ) → PutAs true d to (shown on c) d' to' →
        StretchedAs part from on k n lent put (record { at = next.at; put = to'; count = count + k }) d'
    one_more at to count d s c next means counted roomy d' to' P =
        let w : List ℕ = s.written in
        let v : List ℕ = shown on c in
        let short = shown_short on c in
        let moves = token_moves part at (Character c true) next s.within means.0 in
        let l : length (w ++ v) ≡ length w + length v = length-append w v in
        let front_is : take to d ≡ take put lent ++ w =
        let e : to ≡ length (take put lent ++ w) = omega (arith, s.next, length-append (take put lent) w, length-take put lent, s.room) in
        ap₂ take e (s.left ∙ sym (append_assoc (take put lent) w (drop (put + length w) lent))) ∙ take-append_seam (take put lent ++ w) (drop (put + length w) lent) in
        let back_is : drop to d ≡ drop (put + length w) lent =
        let e : to ≡ length (take put lent ++ w) = omega (arith, s.next, length-append (take put lent) w, length-take put lent, s.room) in
        ap₂ drop e (s.left ∙ sym (append_assoc (take put lent) w (drop (put + length w) lent))) ∙ drop-append_seam (take put lent ++ w) (drop (put + length w) lent) in
        let past_is : drop (to + length v) d ≡ drop (put + length (w ++ v)) lent =
        let e : put + length w + length v ≡ put + length (w ++ v) = omega (arith, l) in
        sym (drop-drop (length v) to d) ∙ ap (drop (length v)) back_is ∙ drop-drop (length v) (put + length w) lent ∙ ap (λ (i : ℕ). drop i lent) e in
        record {
          forward = omega (arith, s.forward, moves.0);
          within = moves.1;
          room = omega (arith, P.next, short, roomy);
          long = ap length P.left ∙ put_length true d to v ∙ s.long;
          count = counted;
          written = w ++ v;
          next = omega (arith, P.next, s.next, l);
          left =
              let u : List ℕ = drop (put + length (w ++ v)) lent in
              let p : d' ≡ take to d ++ (v ++ drop (to + length v) d) = P.left ∙ put_all d to v (omega (arith, s.long, short, roomy)) ∙ append_assoc (take to d) v (drop (to + length v) d) in
              let q : take to d ++ (v ++ drop (to + length v) d) ≡ (take put lent ++ w) ++ (v ++ u) = ap₂ (λ (x y : List ℕ). x ++ (v ++ y)) front_is past_is in
              let r : w ++ (v ++ u) ≡ (w ++ v) ++ u = sym (append_assoc w v u) in
              p ∙ q ∙ append_assoc (take put lent) w (v ++ u) ∙ ap (λ (x : List ℕ). take put lent ++ x) r;
          rest = λ a m steady more x run_on.
              let t = steady c count in
              let counts : t.reached.store.env.count ≤ most_visits = omega (arith, ap (λ (z : Configuration). z.store.env.count) t.leaves, counted) in
              let fits : length (output_of t.reached) ≤ length lent - to = omega (arith, ap length t.writes, short, roomy) in
              let taking : one_token a (counting m count) (length lent - to) (literal c) ≡ taken (counting m (count + k)) v =
              one_takes a (counting m count) (length lent - to) (literal c) t.reached t.stepped counts fits ∙ ap₂ taken t.leaves t.writes in
              let left_over : length lent - to' ≡ length lent - to - length v = omega (arith, P.next) in
              subst (Runs a part more from (length lent - put) (counting m n))
              (ap (λ (o : List ℕ). record { number = x.number; taken = x.taken; output = o; held = x.held }) (sym (append_assoc w v x.output)))
              (s.rest a m steady more (after_writing v x)
              (takes (Character c true) next.at (counting m (count + k)) v (read_plain more part at (Character c true) next.at means) taking
              (subst (λ (i : ℕ). Runs a part more next.at i (counting m (count + k)) x) left_over run_on)));
        }

  without : (m : Configuration) → m.store.env.out ≡ [] → silent m ≡ m
  without m e =
      ap (λ (o : List Piece). record { control = m.control; store = record { kept = m.store.kept; env = record { values = m.store.env.values; echo = m.store.env.echo; out = o; count = m.store.env.count } } })
      (sym e)

  pub no_blank_yet : from ≤ length part → BlanksAs part from from
  no_blank_yet h = record { forward = omega arith; within = h; rest = λ a m s g p more room x c. c }

  pub one_blank : (at : ℕ) → BlanksAs part from at → (c : ℕ) (next : Cursor) → Means (front part at) at (Token (Character c true) next) → blank c ≡ true → BlanksAs part from next.at
  one_blank at s c next means b =
      let moves = token_moves part at (Character c true) next s.within means.0 in
      record {
        forward = omega (arith, s.forward, moves.0);
        within = moves.1;
        rest = λ a m silent_then counted passes more room x run_on.
            let stepped : step_token a m (literal c) ≡ took m =
            ap₂ (λ (i j : Bool). unless_blank (i && j) m (answered (run a m (events_of_token (literal c))))) b passes in
            let nothing : output_of m ≡ [] = ap render silent_then in
            let same : silent m ≡ m = without m silent_then in
            let fits : length (output_of m) ≤ room = omega (arith, ap length nothing) in
            let taking : one_token a m room (literal c) ≡ taken m [] = one_takes a m room (literal c) m stepped counted fits ∙ ap₂ taken same nothing in
            s.rest a m silent_then counted passes more room x
            (takes (Character c true) next.at m [] (read_plain more part at (Character c true) next.at means) taking
            (let e : room ≡ room - 0 = omega arith in subst (λ (i : ℕ). Runs a part more next.at i m x) e run_on));
      }
