-- The same by the kinds and the numbers of tokens. Assumes nothing.
use Rattle.std.specs.Prelude.{Bool, cond, ◌&&◌, ◌||◌, ℕ, eqb}
use Rattle.posts.specs.declared.Milestone.{Milestone}
use Rattle.posts.specs.declared.Wanted.{Wanted}
use Rattle.posts.specs.declared.Wanted.TheVariants.{Post, Nonterminal}
use Rattle.posts.specs.Posts.{next_production, one_post}

abbrev pub is_post_kind : ℕ → Bool
is_post_kind k = eqb k 0 || (eqb k 5 || (eqb k 10 || (eqb k 29 || (eqb k 30 || (eqb k 31 || eqb k 34)))))

abbrev pub passed_kind : Milestone → ℕ → Milestone
passed_kind m k = cond (eqb k 23) (next_production m) (cond (is_post_kind k) (one_post m) m)

abbrev pub is_wanted_kind : Wanted → Milestone → ℕ → ℕ → Bool
is_wanted_kind (Post b j) m k n = is_post_kind k && (eqb m.productions b && eqb m.posts j)
is_wanted_kind (Nonterminal i) m k n = eqb k 0 && eqb n i
