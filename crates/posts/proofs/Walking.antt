-- The walk over the tokens of a text: where it stands, and what is left of a rule text there. Assumes nothing.
use mathlib.Core.Path.{◌≡◌, refl, sym, ◌∙◌, ap, ap₂, subst}
use mathlib.Core.Bool.{Bool, true, false}
use mathlib.Core.Option.{Option, some}
use mathlib.Core.List.{List, [], ◌∷◌, ◌++◌, append_assoc, append-nil, append_cancel_left}
use Prim.Native.Nat.{ℕ, ◌+◌, ◌≤◌}
use native.Mathlib.Omega.{arith}
use lib.ListN.{length, drop, length-drop}
use Rattle.notation.specs.Rules.{Rules}
use Rattle.notation.specs.Tokens.{TextToken, token_bytes}
use Rattle.notation.specs.Gaps.{Ending}
use Rattle.notation.specs.Spelled.{TypedAs, end, token}
use Rattle.notation.specs.RuleText.{RuleText}
use Rattle.notation.proofs.Refusals.{none_where_written}
use Rattle.reading.specs.Machine.{walk}
use Rattle.reading.specs.Rules.{Progress, beginning, step_rules}
use Rattle.reading.proofs.Rules.{reads_rules}
use Rattle.telling.proofs.OneRules.{one_token, gap_one, first_step, end_no_token, token_solid}
use Rattle.lexing.proofs.Spellings.{part}
use Rattle.verdicts.specs.Judged.{Verdict, refused_at, later, Judged}
use Rattle.verdicts.proofs.Judging.{judged_right}
use Rattle.rulings.specs.declared.Reader.{Reader}
use Rattle.rulings.specs.Readers.{Holds, Firm, StartIs}
use Rattle.ledgers.specs.Trodden.{TokenAt}
use Rattle.ledgers.proofs.Telling.{later_none, later_twice, rest_is, judged_on}
use Rattle.std.specs.Prelude.{Some, None, Ok, Err}
use Rattle.sights.specs.declared.Token.{Token}
use Rattle.sights.specs.Rulings.{Ruling}
use Rattle.sights.specs.Glances.{Met, Glance, Seen, writes_rules, refuses, GlanceIs}
use Rattle.sights.proofs.Rest.{met_of, glance_as}
use Rattle.posts.specs.declared.Milestone.{Milestone}
use Rattle.posts.specs.declared.Wanted.{Wanted}
use Rattle.posts.specs.Posts.{set_out, passed, passed_all, is_wanted, NoneWanted}
use Rattle.posts.specs.ByKind.{passed_kind, is_wanted_kind}
use Rattle.posts.specs.Found.{StandsAt, next, behind, WantedTold, there, nowhere, HaltIs}
use Rattle.posts.proofs.KindTests.{passed_kind_lem, wanted_kind}
use Rattle.posts.proofs.Passing.{passed_more, none_more, few_passed}

-- what is left of the tokens of a rule text
pub record Left (tokens before : List TextToken) (x : List ℕ) (s : Progress) : Type 0 where
  pub after : List TextToken
  pub are : tokens ≡ before ++ after
  pub spelled : TypedAs after x
  pub last : Progress
  pub walked : walk step_rules s after ≡ some last

pub record Onward (text : List ℕ) (w : Wanted) (from : ℕ) (m : Milestone) (r : Reader) : Type 0 where
  pub high : from ≤ length text
  pub firm : Firm r
  pub few_productions : m.productions ≤ from
  pub few_posts : m.posts ≤ from
  pub state : Progress
  pub holds : Holds state r
  pub before : List TextToken
  pub milestone : m ≡ passed_all set_out before
  pub none_wanted : NoneWanted w set_out before
  pub judged : (v : Verdict) → Judged state (drop from text) v → Judged beginning text (later from v)
  pub stands : (us : List TextToken) (t : TextToken) (i : ℕ) → StandsAt us t (drop from text) i → StandsAt (before ++ us) t text (from + i)
  pub left : (v : Rules) (h : RuleText text v) → Left h.tokens before (drop from text) state

pub onward_first : (text : List ℕ) (w : Wanted) (r : Reader) → StartIs r → Onward text w 0 set_out r
onward_first text w r h = record {
  high = omega arith;
  firm = h.firm;
  few_productions = omega arith;
  few_posts = omega arith;
  state = beginning;
  holds = h.holds;
  before = [];
  milestone = refl;
  none_wanted = tt;
  judged = λ v j. subst (Judged beginning text) (sym (later_none v)) j;
  stands = λ us t k s. let e : k ≡ 0 + k = omega arith in subst (StandsAt us t text) e s;
  left = λ v k. let c = reads_rules.complete k.tokens v k.grammatical in record { after = k.tokens; are = refl; spelled = k.spelled; last = c.last; walked = c.walked };
}

-- the first token that is left is the one that is met
pub record Heads (tokens before : List TextToken) (t : TextToken) (x : List ℕ) (s : Progress) : Type 0 where
  pub behind_it_lem : List TextToken
  pub are : tokens ≡ before ++ t ∷ behind_it_lem
  pub spelled : TypedAs behind_it_lem x
  pub last : Progress
  pub walked : walk step_rules s behind_it_lem ≡ some last

same_state_lem : (s a b : Progress) (t u : TextToken) → t ≡ u → step_rules s t ≡ some a → step_rules s u ≡ some b → a ≡ b
same_state_lem s a b t u e i j = let f : ◌≡◌ {A = Option Progress} (some a) (some b) = sym i ∙ ap (step_rules s) e ∙ j in cc

heads_of : (s s' z : Progress) (at long : ℕ) (t : TextToken) (x y : List ℕ) (a : TokenAt s x at long t s') (tokens before after : List TextToken) → tokens ≡ before ++ after → TypedAs after y → y ≡ x → walk step_rules s after ≡ some z
    → Heads tokens before t a.rest s'
heads_of s s' z at long t x y a tokens before after c (end e) i w =
    absurd (end_no_token y a.gap (token_bytes t ++ a.rest) e a.is_gap (token_solid s s' t a.rest a.goes.taken) (i ∙ a.are))
heads_of s s' z at long t x y a tokens before after c (token {g = g} {rest = r} {ts = us} u h m sp) i w =
    let n = first_step s z u us w in
    let e = gap_one h a.is_gap (token_bytes u ++ r) (token_bytes t ++ a.rest) (token_solid s n.0 u r n.1) (token_solid s s' t a.rest a.goes.taken) (i ∙ a.are) in
    let same : u ≡ t = one_token s n.0 s' u t r a.rest n.1 a.goes.taken m a.follows e in
    let rest_same : r ≡ a.rest = append_cancel_left (token_bytes t) r a.rest (ap (λ k. token_bytes k ++ r) (sym same) ∙ e) in
    let there : n.0 ≡ s' = same_state_lem s n.0 s' u t same n.1 a.goes.taken in
    record {
      behind_it_lem = us;
      are = c ∙ ap (λ k. before ++ k ∷ us) same;
      spelled = subst (TypedAs us) rest_same sp;
      last = z;
      walked = subst (λ k. walk step_rules k us ≡ some z) there n.2;
    }

module _ (text : List ℕ) (w : Wanted) (from : ℕ) (m : Milestone) (r : Reader) (o : Onward text w from m r) where
  module _ (g : Token) (seen : GlanceIs (drop from text) r (Ok g)) where
    abbrev met : Met o.state (drop from text) g
    met = met_of o.state (drop from text) g (seen.told o.state o.holds)

    pub past_it : 1 ≤ g.long
    past_it = met.onward

    pub reach : from + (g.at + g.long) ≤ length text
    reach = omega (arith, o.high, seen.high, length-drop from text)

    heads : (v : Rules) (h : RuleText text v) → Heads h.tokens o.before met.token met.stands.rest met.next
    heads v h = let l = o.left v h in heads_of o.state met.next l.last g.at g.long met.token (drop from text) (drop from text) met.stands h.tokens o.before l.after l.are l.spelled refl l.walked

    is_wanted_lem : is_wanted_kind w m g.kind g.number ≡ is_wanted w (passed_all set_out o.before) met.token
    is_wanted_lem = ap₂ (λ (k n : ℕ). is_wanted_kind w m k n) met.kind_is met.number_is ∙ sym (wanted_kind w m met.token) ∙ ap (λ (k : Milestone). is_wanted w k met.token) o.milestone

    stands_here : StandsAt o.before met.token text (from + g.at)
    stands_here =
        subst (λ (us : List TextToken). StandsAt us met.token text (from + g.at)) (append-nil o.before)
        (o.stands [] met.token g.at (next met.stands.gap met.stands.rest met.stands.are met.stands.is_gap met.stands.follows met.stands.at_is))

    pub found : is_wanted_kind w m g.kind g.number ≡ true → HaltIs text w (record { found = Some (from + g.at); from = from; reader = g.reader })
    found e = record {
      reached = o.high;
      high = omega (arith, reach);
      low = omega arith;
      firm = seen.firm;
      told = λ v h.
          let k = heads v h in
          there (record {
            before = o.before;
            token = met.token;
            after = k.behind_it_lem;
            are = k.are;
            none_before = o.none_wanted;
            wanted = sym is_wanted_lem ∙ e;
            stands = stands_here;
          });
    }

    -- one token further
    module _ (n : ℕ) (far : n ≡ from + (g.at + g.long)) (no : is_wanted_kind w m g.kind g.number ≡ false) where
      behind_met : drop n text ≡ met.stands.rest
      behind_met = ap (λ (k : ℕ). drop k text) far ∙ rest_is text from g.at g.long o.state met.next met.token met.stands

      stands_next : (us : List TextToken) (t : TextToken) (k : ℕ) → StandsAt us t (drop n text) k → StandsAt ((o.before ++ met.token ∷ []) ++ us) t text (n + k)
      stands_next us t k s =
          let z : StandsAt (met.token ∷ us) t (drop from text) (g.at + g.long + k) =
          behind met.stands.gap met.stands.rest met.stands.are met.stands.is_gap met.stands.follows (subst (λ y. StandsAt us t y k) behind_met s) (ap₂ (λ (a b : ℕ). a + b + k) met.stands.at_is met.stands.long_is) in
          let far_k : from + (g.at + g.long + k) ≡ n + k = omega (arith, far) in
          subst (λ (y : ℕ). StandsAt ((o.before ++ met.token ∷ []) ++ us) t text y) far_k
          (subst (λ (y : List TextToken). StandsAt y t text (from + (g.at + g.long + k))) (sym (append_assoc o.before (met.token ∷ []) us)) (o.stands (met.token ∷ us) t (g.at + g.long + k) z))

      judged_next : (v : Verdict) → Judged met.next (drop n text) v → Judged beginning text (later n v)
      judged_next v j =
          subst (λ (k : ℕ). Judged beginning text (later k v)) (sym far)
          (subst (Judged beginning text) (later_twice from (g.at + g.long) v)
          (o.judged (later (g.at + g.long) v) (judged_on text from g.at g.long o.state met.next met.token met.stands v (subst (λ (k : ℕ). Judged met.next (drop k text) v) far j))))

      left_next : (v : Rules) (k : RuleText text v) → Left k.tokens (o.before ++ met.token ∷ []) (drop n text) met.next
      left_next v k = let l = heads v k in record {
        after = l.behind_it_lem;
        are = l.are ∙ sym (append_assoc o.before (met.token ∷ []) l.behind_it_lem);
        spelled = subst (TypedAs l.behind_it_lem) (sym behind_met) l.spelled;
        last = l.last;
        walked = l.walked;
      }

      pub onward_on : (m' : Milestone) → m' ≡ passed_kind m g.kind → m'.productions ≤ n → m'.posts ≤ n → Onward text w n m' g.reader
      onward_on m' e a b = record {
        high = omega (arith, far, reach);
        firm = seen.firm;
        few_productions = a;
        few_posts = b;
        state = met.next;
        holds = met.holds;
        before = o.before ++ met.token ∷ [];
        milestone = e ∙ ap (passed_kind m) met.kind_is ∙ sym (passed_kind_lem m met.token) ∙ ap (λ (k : Milestone). passed k met.token) o.milestone ∙ sym (passed_more set_out o.before met.token);
        none_wanted = none_more w set_out o.before met.token o.none_wanted (sym is_wanted_lem ∙ no);
        judged = judged_next;
        stands = stands_next;
        left = left_next;
      }

  none_left : (tokens before after : List TextToken) (x y : List ℕ) (z : Progress) → tokens ≡ before ++ after → TypedAs after y → y ≡ x → Ending x → walk step_rules o.state after ≡ some z → NoneWanted w set_out before → NoneWanted w set_out tokens
  none_left tokens before after x y z c (end e) i f k h = subst (NoneWanted w set_out) (sym (c ∙ append-nil before)) h
  none_left tokens before after x y z c (token {g = q} {rest = r} {ts = us} u p a sp) i f k h =
      let n = first_step o.state z u us k in
      absurd (end_no_token x q (token_bytes u ++ r) f p (token_solid o.state n.0 u r n.1) (sym i))

  nowhere_told : (v : Rules) (h : RuleText text v) (a : Ruling) → Seen o.state (drop from text) (Err a) → WantedTold w h.tokens text None
  nowhere_told v h a (writes_rules q f k) =
      let l = o.left v h in
      nowhere (none_left h.tokens o.before l.after (drop from text) (drop from text) l.last l.are l.spelled refl k l.walked o.none_wanted)
  nowhere_told v h a (refuses {k = k} j) = absurd (none_where_written ℕ Rules RuleText text v (from + k) h (judged_right text (refused_at (from + k)) (o.judged (refused_at k) j)))

  pub not_found : (a : Ruling) → GlanceIs (drop from text) r (Err a) → HaltIs text w (record { found = None; from = from; reader = r })
  not_found a seen = record { reached = o.high; high = tt; low = tt; firm = o.firm; told = λ v h. nowhere_told v h a (seen.told o.state o.holds) }

-- as the code asks for it
module _ (text : List ℕ) (w : Wanted) (from : ℕ) (m : Milestone) (r : Reader) (o : Onward text w from m r) (a : Glance) (i : GlanceIs (part text from) r a) where
  module _ (g : Token) (e : a ≡ Ok g) where
    token_seen : GlanceIs (drop from text) r (Ok g)
    token_seen = glance_as text from r a (Ok g) e i

    pub token_reach : (1 ≤ g.long) × (from + (g.at + g.long) ≤ length text)
    token_reach = (past_it text w from m r o g token_seen, reach text w from m r o g token_seen)

    pub onward_next : (b : Bool) → b ≡ is_wanted_kind w m g.kind g.number → b ≡ false → (m' : Milestone) → m' ≡ passed_kind m g.kind → Onward text w (from + g.at + g.long) m' g.reader
    onward_next b y f m' p =
        let z = few_passed m g.kind (from + g.at + g.long) m' p (omega (arith, o.few_productions, token_reach.0)) (omega (arith, o.few_posts, token_reach.0)) in
        onward_on text w from m r o g token_seen (from + g.at + g.long) (omega arith) (sym y ∙ f) m' p z.0 z.1

    pub onward_found : (b : Bool) → b ≡ is_wanted_kind w m g.kind g.number → b ≡ true → HaltIs text w (record { found = Some (from + g.at); from = from; reader = g.reader })
    onward_found b y f = found text w from m r o g token_seen (sym y ∙ f)

  pub onward_ended : (z : Ruling) → a ≡ Err z → HaltIs text w (record { found = None; from = from; reader = r })
  onward_ended z e = not_found text w from m r o z (glance_as text from r a (Err z) e i)
