-- The list of a grammar's faults, computed: rule T by counting productions alike, rule S by counting bracket strings.
-- Assumes nothing.
use Rattle.std.specs.Prelude.{Bool, true, false, cond, ◌&&◌, List, [], ◌∷◌, ◌++◌, ℕ, zero, suc, ◌+◌, eqb, leb}
use Rattle.expressions.specs.Expr.{Content, places}
use Rattle.expressions.specs.Grammar.{only_if, Production, nonterminals, tags_of, Next, tag, character, end, byte_of}
use Rattle.expressions.specs.Count.{Count, none, one, many}
use Rattle.expressions.specs.Decide.{count}

-- f i, f (i + 1) and so on, n of them
abbrev pub gather : ℕ → ℕ → (ℕ → List (List ℕ)) → List (List ℕ)
gather i zero f = []
gather i (suc n) f = f i ++ gather (suc i) n f

-- the number of productions of nonterminal m and tag t
abbrev pub alike : List Production → ℕ → ℕ → ℕ
alike [] m t = 0
alike (d ∷ ds) m t = cond (eqb m d.nonterm && eqb t d.tagno) 1 0 + alike ds m t

abbrev pub t_fault_at : List Production → ℕ → ℕ → List (List ℕ)
t_fault_at g m t = only_if (leb 2 (alike g m t)) (8 ∷ m ∷ t ∷ 0 ∷ [])

-- the T faults of a nonterminal, with n tags, and of all
abbrev pub t_faults_of : ℕ → List Production → ℕ → List (List ℕ)
t_faults_of n g m = gather 0 n (t_fault_at g m)

abbrev pub t_faults : ℕ → List Production → List (List ℕ)
t_faults n g = gather 0 nonterminals (t_faults_of n g)

abbrev pub is_many : Count → Bool
is_many none = false
is_many one = false
is_many many = true

abbrev pub s_fault_at : (ℕ → List ℕ) → Content → ℕ → ℕ → Next → List (List ℕ)
s_fault_at tags e q p x = only_if (is_many (count tags e p x)) (9 ∷ q ∷ p ∷ byte_of x ∷ [])

-- the S faults at a place, with n tags, of a production, and of all from production q on
abbrev pub s_faults_at : ℕ → (ℕ → List ℕ) → Content → ℕ → ℕ → List (List ℕ)
s_faults_at n tags e q p =
    gather 0 n (λ t. s_fault_at tags e q p (tag t)) ++ (s_fault_at tags e q p character ++ s_fault_at tags e q p end)

abbrev pub s_faults_of : ℕ → (ℕ → List ℕ) → ℕ → Content → List (List ℕ)
s_faults_of n tags q e = gather 0 (places e) (s_faults_at n tags e q)

abbrev pub s_faults_from : ℕ → (ℕ → List ℕ) → ℕ → List Production → List (List ℕ)
s_faults_from n tags q [] = []
s_faults_from n tags q (d ∷ ds) = s_faults_of n tags q d.content ++ s_faults_from n tags (suc q) ds

abbrev pub fault_list : ℕ → List Production → List (List ℕ)
fault_list n g = t_faults n g ++ s_faults_from n (tags_of g) 0 g
