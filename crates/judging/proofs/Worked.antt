-- What is told of some texts, by the machine. Assumes nothing.
use mathlib.Core.Path.{◌≡◌, refl, sym, ◌∙◌}
use mathlib.Core.Logic.{inl, inr}
use mathlib.Core.Bool.{true, false, true≢false}
use mathlib.Core.List.{List, [], ◌∷◌, head-eq_of_cons-eq, tail-eq_of_cons-eq}
use Prim.Native.Nat.{ℕ}
use native.Mathlib.Omega.{arith}
use lib.ListN.{drop}
use Rattle.notation.specs.Statements.{parentheses}
use Rattle.models.specs.Models.{called, sequence, at_least_one, children}
use Rattle.models.specs.Answers.{AnyAt, EntityAt, AttlistAt, Stands, any, entity, attlist, other}
use Rattle.models.specs.Reader.{commas, opening, contents, inside, mixed_closed, in_name, wants, group_closed, ended, outside, within}
use Rattle.models.proofs.OneAnswer.{starts_any, starts_entity, starts_attlist}
use Rattle.judging.specs.Standing.{StandsBehind}
use Rattle.judging.specs.Worked.{any_text, anything_text, entity_text, reference_text, attlist_text, doubled_text, thirteen_text, mingled_text, unstarred_text, ToldOfTexts}
use Rattle.judging.proofs.Words.{parted, goes_on}
use Rattle.judging.proofs.Refused.{stands_first, refused_by_grammar, refused_by_nodes, refused_by_depth, unfinished}
use Rattle.judging.proofs.Contents.{where_content_begins}

-- a byte that is none of A, N, % and & begins no word
plain_byte : (text rest : List ℕ) (k b : ℕ) → drop k text ≡ b ∷ rest → (b ≡ 65 → ⊥) → (b ≡ 78 → ⊥) → (b ≡ 37 → ⊥) → (b ≡ 38 → ⊥) → Stands text k 55
plain_byte text rest k b here a n p m = other no_any no_entity no_attlist
  where
    no_any : AnyAt text k → ⊥
    no_any x = let t = starts_any text k x in a (head-eq_of_cons-eq (sym here ∙ t.1))

    no_entity : EntityAt text k → ⊥
    no_entity (inl (r, e)) = p (head-eq_of_cons-eq (sym here ∙ e))
    no_entity (inr (inl (r, e))) = m (head-eq_of_cons-eq (sym here ∙ e))
    no_entity (inr (inr x)) = n (head-eq_of_cons-eq (sym here ∙ x.entity.is))

    no_attlist : AttlistAt text k → ⊥
    no_attlist x = let t = starts_attlist text k x in a (head-eq_of_cons-eq (sym here ∙ t.1))

before_any : StandsBehind any_text 12 (within [] (contents (97 ∷ [])))
before_any = record { reached = omega arith; walked = refl; fits = record { few = (omega arith, tt); shallow = (omega arith, tt) } }

before_anything : StandsBehind anything_text 12 (within [] (contents (97 ∷ [])))
before_anything = record { reached = omega arith; walked = refl; fits = record { few = (omega arith, tt); shallow = (omega arith, tt) } }

in_entity : StandsBehind entity_text 3 (within [] (opening (76 ∷ 69 ∷ 77 ∷ 69 ∷ 78 ∷ 84 ∷ [])))
in_entity = record { reached = omega arith; walked = refl; fits = record { few = (omega arith, tt); shallow = (omega arith, tt) } }

in_reference : StandsBehind reference_text 13 (within [] (inside (97 ∷ [])))
in_reference = record { reached = omega arith; walked = refl; fits = record { few = (omega arith, tt); shallow = (omega arith, tt) } }

in_attlist : StandsBehind attlist_text 2 (within [] (opening (69 ∷ 76 ∷ 69 ∷ 77 ∷ 69 ∷ 78 ∷ 84 ∷ [])))
in_attlist = record { reached = omega arith; walked = refl; fits = record { few = (omega arith, tt); shallow = (omega arith, tt) } }

in_doubled : StandsBehind doubled_text 24 (within [] (group_closed (97 ∷ []) (at_least_one (at_least_one (at_least_one (called (98 ∷ [])))))))
in_doubled = record { reached = omega arith; walked = refl; fits = record { few = (omega arith, tt); shallow = (omega arith, tt) } }

in_thirteen : StandsBehind thirteen_text 36 (within [] (in_name (97 ∷ []) (109 ∷ []) (commas (sequence (sequence (sequence (sequence (sequence (sequence (sequence (sequence (sequence (sequence (called (98 ∷ [])) (called (99 ∷ []))) (called (100 ∷ []))) (called (101 ∷ []))) (called (102 ∷ []))) (called (103 ∷ []))) (called (104 ∷ []))) (called (105 ∷ []))) (called (106 ∷ []))) (called (107 ∷ []))) (called (108 ∷ [])))) []))
in_thirteen = record { reached = omega arith; walked = refl; fits = record { few = (omega arith, tt); shallow = (omega arith, tt) } }

in_mingled : StandsBehind mingled_text 16 (within [] (in_name (97 ∷ []) (99 ∷ []) (commas (called (98 ∷ []))) []))
in_mingled = record { reached = omega arith; walked = refl; fits = record { few = (omega arith, tt); shallow = (omega arith, tt) } }

in_unstarred : StandsBehind unstarred_text 23 (within [] (mixed_closed (97 ∷ []) ((98 ∷ []) ∷ [])))
in_unstarred = record { reached = omega arith; walked = refl; fits = record { few = (omega arith, tt); shallow = (omega arith, tt) } }

-- ANY goes on with a name's byte
no_any_thing : AnyAt anything_text 12 → ⊥
no_any_thing a = goes_on (65 ∷ 78 ∷ 89 ∷ []) (drop 12 anything_text) (72 ∷ 73 ∷ 78 ∷ 71 ∷ 62 ∷ []) 84 refl refl a.any

no_entity_thing : EntityAt anything_text 12 → ⊥
no_entity_thing a = let t = starts_entity anything_text 12 a in t.3 (head-eq_of_cons-eq (sym t.2))

no_attlist_thing : AttlistAt anything_text 12 → ⊥
no_attlist_thing a =
    let t = starts_attlist anything_text 12 a in
    let e : ◌≡◌ {A = ℕ} 78 84 = head-eq_of_cons-eq (tail-eq_of_cons-eq t.1) in
    omega (arith, e)

-- > and white space are no bytes of a name
not_a_name : false ≡ true → ⊥
not_a_name e = true≢false (sym e)

pub told_of_texts : ToldOfTexts
told_of_texts = record {
  any_content = refused_by_grammar any_text (78 ∷ 89 ∷ 62 ∷ []) 12 65 50 (within [] (contents (97 ∷ []))) before_any refl (λ p. refl) ((let c = (where_content_begins any_text 12 (within [] (contents (97 ∷ []))) before_any).1 ([], 97 ∷ [], refl) in any (record { declarations = c.0; could_be = c.1; any = parted (65 ∷ 78 ∷ 89 ∷ []) (drop 12 any_text) [] 62 refl not_a_name })));
  no_whole_word = refused_by_grammar anything_text (78 ∷ 89 ∷ 84 ∷ 72 ∷ 73 ∷ 78 ∷ 71 ∷ 62 ∷ []) 12 65 55 (within [] (contents (97 ∷ []))) before_anything refl (λ p. refl) (other no_any_thing no_entity_thing no_attlist_thing);
  entity_declared = refused_by_grammar entity_text (84 ∷ 73 ∷ 84 ∷ 89 ∷ 32 ∷ 120 ∷ 32 ∷ 39 ∷ 121 ∷ 39 ∷ 62 ∷ []) 3 78 51 (within [] (opening (76 ∷ 69 ∷ 77 ∷ 69 ∷ 78 ∷ 84 ∷ []))) in_entity refl (λ p. refl) (entity (inr (inr (record { behind = record { before = []; is = refl }; entity = parted (78 ∷ 84 ∷ 73 ∷ 84 ∷ 89 ∷ []) (drop 3 entity_text) (120 ∷ 32 ∷ 39 ∷ 121 ∷ 39 ∷ 62 ∷ []) 32 refl not_a_name }))));
  entity_referred_to = refused_by_grammar reference_text (120 ∷ 59 ∷ 41 ∷ 62 ∷ []) 13 37 51 (within [] (inside (97 ∷ []))) in_reference refl (λ p. refl) (entity (inl (120 ∷ 59 ∷ 41 ∷ 62 ∷ [], refl)));
  attributes_declared = refused_by_grammar attlist_text (84 ∷ 84 ∷ 76 ∷ 73 ∷ 83 ∷ 84 ∷ 32 ∷ 97 ∷ 32 ∷ 98 ∷ 32 ∷ 67 ∷ 68 ∷ 65 ∷ 84 ∷ 65 ∷ 32 ∷ 35 ∷ 73 ∷ 77 ∷ 80 ∷ 76 ∷ 73 ∷ 69 ∷ 68 ∷ 62 ∷ []) 2 65 52 (within [] (opening (69 ∷ 76 ∷ 69 ∷ 77 ∷ 69 ∷ 78 ∷ 84 ∷ []))) in_attlist refl (λ p. refl) (attlist (record { behind = record { before = []; is = refl }; attlist = parted (65 ∷ 84 ∷ 84 ∷ 76 ∷ 73 ∷ 83 ∷ 84 ∷ []) (drop 2 attlist_text) (97 ∷ 32 ∷ 98 ∷ 32 ∷ 67 ∷ 68 ∷ 65 ∷ 84 ∷ 65 ∷ 32 ∷ 35 ∷ 73 ∷ 77 ∷ 80 ∷ 76 ∷ 73 ∷ 69 ∷ 68 ∷ 62 ∷ []) 32 refl not_a_name }));
  doubled_too_often = refused_by_nodes doubled_text (62 ∷ []) 24 43 parentheses (within [] (group_closed (97 ∷ []) (at_least_one (at_least_one (at_least_one (called (98 ∷ []))))))) (within [] (ended (97 ∷ []) (children (at_least_one (at_least_one (at_least_one (at_least_one (called (98 ∷ []))))))))) in_doubled refl refl (λ f. omega (arith, f.0));
  thirteen_names = refused_by_depth thirteen_text (110 ∷ 41 ∷ 62 ∷ []) 36 44 parentheses (within [] (in_name (97 ∷ []) (109 ∷ []) (commas (sequence (sequence (sequence (sequence (sequence (sequence (sequence (sequence (sequence (sequence (called (98 ∷ [])) (called (99 ∷ []))) (called (100 ∷ []))) (called (101 ∷ []))) (called (102 ∷ []))) (called (103 ∷ []))) (called (104 ∷ []))) (called (105 ∷ []))) (called (106 ∷ []))) (called (107 ∷ []))) (called (108 ∷ [])))) [])) (within [] (wants (97 ∷ []) (commas (sequence (sequence (sequence (sequence (sequence (sequence (sequence (sequence (sequence (sequence (sequence (called (98 ∷ [])) (called (99 ∷ []))) (called (100 ∷ []))) (called (101 ∷ []))) (called (102 ∷ []))) (called (103 ∷ []))) (called (104 ∷ []))) (called (105 ∷ []))) (called (106 ∷ []))) (called (107 ∷ []))) (called (108 ∷ []))) (called (109 ∷ [])))) [])) in_thirteen refl refl (omega arith, tt) (inl (λ f. omega (arith, f.0)));
  commas_and_bars = refused_by_grammar mingled_text (100 ∷ 41 ∷ 62 ∷ []) 16 124 55 (within [] (in_name (97 ∷ []) (99 ∷ []) (commas (called (98 ∷ []))) [])) in_mingled refl (λ p. refl) (plain_byte mingled_text (100 ∷ 41 ∷ 62 ∷ []) 16 124 refl (λ e. omega (arith, e)) (λ e. omega (arith, e)) (λ e. omega (arith, e)) (λ e. omega (arith, e)));
  without_a_star = refused_by_grammar unstarred_text ([]) 23 62 55 (within [] (mixed_closed (97 ∷ []) ((98 ∷ []) ∷ []))) in_unstarred refl (λ p. refl) (plain_byte unstarred_text ([]) 23 62 refl (λ e. omega (arith, e)) (λ e. omega (arith, e)) (λ e. omega (arith, e)) (λ e. omega (arith, e)));
  no_text = unfinished [] (outside []) (stands_first []) refl;
}
