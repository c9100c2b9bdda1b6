-- What is answered of a token's row, by its kind. Assumes nothing.
use mathlib.Core.Path.{◌≡◌, refl, sym, ◌∙◌, subst}
use mathlib.Core.Logic.{◌⊎◌, inl, inr}
use Rattle.std.specs.Prelude.{Option as Taken, Some, None, MatchOption}
use mathlib.Core.List.{List, [], ◌∷◌, ◌++◌}
use Prim.Native.Nat.{ℕ, ◌+◌, ◌≤◌, ◌<◌}
use native.Mathlib.Omega.{arith}
use lib.ListN.{length}
use Rattle.stores.specs.declared.Filed.{Filed}
use Rattle.stores.specs.Rows.{HasRows}
use Rattle.stores.specs.Filed.{FiledIs}
use Rattle.shelves.specs.declared.Filing.{Filing}
use Rattle.shelves.specs.declared.Shelved.{Shelved}
use Rattle.shelves.specs.Shelves.{FilingIs, Rowed, ShelvedIs}
use Rattle.shelves.proofs.Rows.{rows_fit}
use Rattle.shelves.proofs.Outcomes.{with_tag, with_string, with_program, as_string, as_program, as_tag, as_nothing}

-- one row more has an end
pub added_count : (bytes ends : List ℕ) (count : ℕ) (x b e : List ℕ) (a : Filed) (p o : ℕ) → HasRows bytes ends count → a ≡ Filed.Added p o → FiledIs bytes ends count x b e a → count + 1 ≤ length e
added_count bytes ends count x b e a p o h k f' =
    let f = subst (FiledIs bytes ends count x b e) k f' in
    let g = (f.is h.rows h.are).rows in
    omega (arith, (rows_fit b e (count + 1) (h.rows ++ x ∷ []) g).0, g.number)

module _ (kind : ℕ) (row : List ℕ) (old : Shelved) (tb te sb se pb pe : List ℕ) (w : Rowed old tb te sb se pb pe) where
  tags_rowed : (tb' te' : List ℕ) (o : Taken Filing) → FilingIs tb te old.tags row tb' te' o → MatchOption (with_tag old.strings old.programs o) (Rowed old tb' te' sb se pb pe) (λ f. Rowed f tb' te' sb se pb pe)
  tags_rowed tb' te' None f = record {
    tag_room = f.long_bytes ∙ w.tag_room;
    tag_places = f.long_ends ∙ w.tag_places;
    string_room = w.string_room;
    string_places = w.string_places;
    program_room = w.program_room;
    program_places = w.program_places;
    tag_rows = f.has_rows;
    string_rows = w.string_rows;
    program_rows = w.program_rows;
  }
  tags_rowed tb' te' (Some a) f = record {
    tag_room = f.long_bytes ∙ w.tag_room;
    tag_places = f.long_ends ∙ w.tag_places;
    string_room = w.string_room;
    string_places = w.string_places;
    program_room = w.program_room;
    program_places = w.program_places;
    tag_rows = f.has_rows;
    string_rows = w.string_rows;
    program_rows = w.program_rows;
  }

  strings_rowed : (sb' se' : List ℕ) (o : Taken Filing) → FilingIs sb se old.strings row sb' se' o → MatchOption (with_string old.tags old.programs o) (Rowed old tb te sb' se' pb pe) (λ f. Rowed f tb te sb' se' pb pe)
  strings_rowed sb' se' None f = record {
    tag_room = w.tag_room;
    tag_places = w.tag_places;
    string_room = f.long_bytes ∙ w.string_room;
    string_places = f.long_ends ∙ w.string_places;
    program_room = w.program_room;
    program_places = w.program_places;
    tag_rows = w.tag_rows;
    string_rows = f.has_rows;
    program_rows = w.program_rows;
  }
  strings_rowed sb' se' (Some a) f = record {
    tag_room = w.tag_room;
    tag_places = w.tag_places;
    string_room = f.long_bytes ∙ w.string_room;
    string_places = f.long_ends ∙ w.string_places;
    program_room = w.program_room;
    program_places = w.program_places;
    tag_rows = w.tag_rows;
    string_rows = f.has_rows;
    program_rows = w.program_rows;
  }

  programs_rowed : (pb' pe' : List ℕ) (o : Taken Filing) → FilingIs pb pe old.programs row pb' pe' o → MatchOption (with_program old.tags old.strings o) (Rowed old tb te sb se pb' pe') (λ f. Rowed f tb te sb se pb' pe')
  programs_rowed pb' pe' None f = record {
    tag_room = w.tag_room;
    tag_places = w.tag_places;
    string_room = w.string_room;
    string_places = w.string_places;
    program_room = f.long_bytes ∙ w.program_room;
    program_places = f.long_ends ∙ w.program_places;
    tag_rows = w.tag_rows;
    string_rows = w.string_rows;
    program_rows = f.has_rows;
  }
  programs_rowed pb' pe' (Some a) f = record {
    tag_room = w.tag_room;
    tag_places = w.tag_places;
    string_room = w.string_room;
    string_places = w.string_places;
    program_room = f.long_bytes ∙ w.program_room;
    program_places = f.long_ends ∙ w.program_places;
    tag_rows = w.tag_rows;
    string_rows = w.string_rows;
    program_rows = f.has_rows;
  }

  pub filed_string : (sb' se' : List ℕ) (a : Taken Filing) (q : Taken Shelved) → q ≡ with_string old.tags old.programs a → kind ≡ 9 → FilingIs sb se old.strings row sb' se' a → ShelvedIs kind row old tb te sb se pb pe tb te sb' se' pb pe q
  filed_string sb' se' a q e k f = subst (ShelvedIs kind row old tb te sb se pb pe tb te sb' se' pb pe) (sym e) (record {
    rowed = strings_rowed sb' se' a f;
    is = λ r s s' t j h d g l i held. as_string r s s' t d g l old tb te sb se pb pe row held sb' se' a t refl (sym k ∙ j) i f w.string_room w.string_places;
  })

  pub filed_program : (pb' pe' : List ℕ) (a : Taken Filing) (q : Taken Shelved) → q ≡ with_program old.tags old.strings a → kind ≡ 28 → FilingIs pb pe old.programs row pb' pe' a → ShelvedIs kind row old tb te sb se pb pe tb te sb se pb' pe' q
  filed_program pb' pe' a q e k f = subst (ShelvedIs kind row old tb te sb se pb pe tb te sb se pb' pe') (sym e) (record {
    rowed = programs_rowed pb' pe' a f;
    is = λ r s s' t j h d g l i held. as_program r s s' t d g l old tb te sb se pb pe row held pb' pe' a t refl (sym k ∙ j) i f w.program_room w.program_places;
  })

  pub filed_tag : (tb' te' : List ℕ) (a : Taken Filing) (q : Taken Shelved) → q ≡ with_tag old.strings old.programs a → 5 ≤ kind → kind < 9 → FilingIs tb te old.tags row tb' te' a → ShelvedIs kind row old tb te sb se pb pe tb' te' sb se pb pe q
  filed_tag tb' te' a q e low high f = subst (ShelvedIs kind row old tb te sb se pb pe tb' te' sb se pb pe) (sym e) (record {
    rowed = tags_rowed tb' te' a f;
    is = λ r s s' t j h d g l i held. as_tag r s s' t d g l old tb te sb se pb pe row held tb' te' a t refl (subst (λ (n : ℕ). 5 ≤ n) j low) (subst (λ (n : ℕ). n < 9) j high) h i f w.tag_room w.tag_places;
  })

  not_filed : (kind ≡ 9 → ⊥) → (kind ≡ 28 → ⊥) → (kind < 5) ⊎ (9 ≤ kind) → ShelvedIs kind row old tb te sb se pb pe tb te sb se pb pe (Some old)
  not_filed a b c = record {
    rowed = w;
    is = λ r s s' t j h d g l i held. as_nothing r s s' t d g l old tb te sb se pb pe row held t refl (λ e. a (j ∙ e)) (λ e. b (j ∙ e)) (subst (λ (n : ℕ). (n < 5) ⊎ (9 ≤ n)) j c);
  }

  pub filed_low : kind < 5 → ShelvedIs kind row old tb te sb se pb pe tb te sb se pb pe (Some old)
  filed_low h = not_filed (λ e. omega arith) (λ e. omega arith) (inl h)

  pub filed_high : (kind ≡ 9 → ⊥) → (kind ≡ 28 → ⊥) → 9 ≤ kind → ShelvedIs kind row old tb te sb se pb pe tb te sb se pb pe (Some old)
  filed_high a b h = not_filed a b (inr h)
