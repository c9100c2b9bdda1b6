-- Regrouping changes no fault: rule S by the counts, rule T by the productions' numbers; so the list of faults, and its bytes, stay.
-- Assumes nothing.
use mathlib.Core.Path.{sym, ◌∙◌, ap, subst}
use mathlib.Core.List.{List}
use mathlib.Core.Logic.{◌⊎◌, inl, inr, ⊎_elim}
use Prim.Native.Nat.{ℕ}
use Rattle.expressions.specs.Expr.{Exp, Content, tree}
use Rattle.expressions.specs.Grammar.{Production, tags_of, Next}
use Rattle.expressions.specs.Fault.{Fault}
use Rattle.expressions.specs.FaultList.{Has, TFault, SFault, IsFaultList, list_bytes}
use Rattle.expressions.proofs.Rule.{fault_many, many_fault}
use Rattle.expressions.proofs.Order.{Bytes, one_list}
use Rattle.grouping.specs.Regrouped.{Which, Regrouped, back, RegroupedContent, still_nothing, regrouped_tree, RegroupedGrammar}
use Rattle.grouping.specs.Laws.{FaultsStay, ListStays, BytesStay}
use Rattle.grouping.proofs.Counts.{count_stays}
use Rattle.grouping.proofs.Grammars.{grammar_back, nth_stays, tags_stay}

fault_stays : {w : Which} {e e' : Exp} → Regrouped w e e' → (tags : ℕ → List ℕ) (p : ℕ) (x : Next) → Fault tags (tree e) p x → Fault tags (tree e') p x
fault_stays r tags p x f = many_fault tags _ p x (sym (count_stays r tags p x) ∙ fault_many tags _ p x f)

pub faults_stay : FaultsStay
faults_stay e e' r tags p x = (fault_stays r tags p x, fault_stays (back r) tags p x)

module _ {w : Which} where
  in_content : {c c' : Content} → RegroupedContent w c c' → (tags : ℕ → List ℕ) (p : ℕ) (x : Next) → Fault tags c p x → Fault tags c' p x
  in_content still_nothing tags p x f = f
  in_content (regrouped_tree r) tags p x f = fault_stays r tags p x f

  has_stays : {g g' : List Production} → RegroupedGrammar w g g' → (n t q : ℕ) → Has g n t q → Has g' n t q
  has_stays r n t q h =
      let d = nth_stays r q h.production h.is_production in
      record { production = d.0; is_production = d.1; its_nonterminal = sym d.2.same_nonterminal ∙ h.its_nonterminal; its_tag = sym d.2.same_tag ∙ h.its_tag }

  t_stays : {g g' : List Production} → RegroupedGrammar w g g' → (b : Bytes) → TFault g b → TFault g' b
  t_stays r b f = record {
    nonterm = f.nonterm;
    tagno = f.tagno;
    first = f.first;
    second = f.second;
    two = f.two;
    first_has = has_stays r f.nonterm f.tagno f.first f.first_has;
    second_has = has_stays r f.nonterm f.tagno f.second f.second_has;
    are_bytes = f.are_bytes;
  }

  s_stays : {g g' : List Production} → RegroupedGrammar w g g' → (b : Bytes) → SFault g b → SFault g' b
  s_stays {g} {g'} r b f =
      let d = nth_stays r f.number f.production f.is_production in
      record {
        number = f.number;
        production = d.0;
        place = f.place;
        next = f.next;
        is_production = d.1;
        fault = in_content d.2.expression (tags_of g') f.place f.next
            (subst (λ (tags : ℕ → List ℕ). Fault tags f.production.content f.place f.next) (tags_stay r) f.fault);
        are_bytes = f.are_bytes;
      }

  either_stays : {g g' : List Production} → RegroupedGrammar w g g' → (b : Bytes) → TFault g b ⊎ SFault g b → TFault g' b ⊎ SFault g' b
  either_stays r b h = ⊎_elim (λ f. inl (t_stays r b f)) (λ f. inr (s_stays r b f)) h

  pub list_of : {g g' : List Production} → RegroupedGrammar w g g' → (l : List Bytes) → IsFaultList g l → IsFaultList g' l
  list_of r l h = record {
    rises = h.rises;
    holds = λ b. ((λ f. (h.holds b).0 (either_stays (grammar_back r) b f)), λ m. either_stays r b ((h.holds b).1 m));
  }

pub list_stays : ListStays
list_stays g g' r l = (list_of r l, list_of (grammar_back r) l)

pub bytes_stay : BytesStay
bytes_stay g g' r l l' h h' = ap list_bytes (one_list (list_of r l h) h')

-- a sheet that passes keeps passing
pub t_kept : {w : Which} {g g' : List Production} → RegroupedGrammar w g g' → ((b : Bytes) → TFault g b → ⊥) → (b : Bytes) → TFault g' b → ⊥
t_kept r k b f = k b (t_stays (grammar_back r) b f)

pub s_kept : {w : Which} {g g' : List Production} → RegroupedGrammar w g g' → ((b : Bytes) → SFault g b → ⊥) → (b : Bytes) → SFault g' b → ⊥
s_kept r k b f = k b (s_stays (grammar_back r) b f)
