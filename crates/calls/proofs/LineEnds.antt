-- Line ends: what is read of the normalised bytes hands on the same (`translated` of the tokens), and the run's tokens are of what is handed on.
-- Assumes nothing.
use mathlib.Core.Path.{◌≡◌, refl, sym, ap, ap₂, ◌∙◌, subst}
use mathlib.Core.Bool.{Bool, true, false, true≢false}
use mathlib.Core.List.{List, [], ◌∷◌, ◌++◌, append-nil}
use Prim.Native.Nat.{ℕ, ◌+◌}
use native.Mathlib.Omega.{arith}
use lib.ListN.{length, take, drop}
use lib.Seq.{drop-append_seam, take-append_seam}
use Rattle.tokens.specs.declared.Event.{Event}
use Rattle.tokens.specs.declared.Event.TheVariants.{Start, End, Empty, Character}
use Rattle.tokens.specs.Tokens.{start, end, empty, crlf, cr, Tok, tag, ref, numeric, line, char}
use Rattle.tokens.specs.Stream.{Reads, flat, Followed, AllWhole, events_at}
use Rattle.tokens.specs.LineEnds.{normal, Handed, a_tag, a_character, handed_on, all_handed, TranslatedTo}
use Rattle.tokens.proofs.LineEnds.{translated}
use Rattle.tokens.proofs.Streams.{reads_flat}
use Rattle.sheet.specs.Sheet.{Sheet}
use Rattle.runs.specs.Visits.{Env}
use Rattle.runs.specs.Spells.{Token, start_token, end_token, empty_token, Spelled}
use Rattle.calls.specs.Names.{tag_named, character_token, tokens_for, token_of}
use Rattle.calls.specs.Accepted.{Accepted, AcceptedNormalised}
use Rattle.calls.proofs.Main.{tokens_at}
use Rattle.calls.proofs.Read.{read_tokens}
use Rattle.calls.proofs.Steps.{tokens_of}

-- the run's token of what is handed on
abbrev token_handed : Sheet → Handed → Token
token_handed a (a_tag start n) = start_token (tag_named a.names n)
token_handed a (a_tag end n) = end_token (tag_named a.names n)
token_handed a (a_tag empty n) = empty_token (tag_named a.names n)
token_handed a (a_character c literally) = character_token literally c

abbrev tokens_handed : Sheet → List Handed → List Token
tokens_handed a [] = []
tokens_handed a (h ∷ hs) = token_handed a h ∷ tokens_handed a hs

handed_token : (a : Sheet) (s : List ℕ) (e : Event) → token_of a s e ≡ token_handed a (handed_on s e)
handed_token a s (Start from len) = refl
handed_token a s (End from len) = refl
handed_token a s (Empty from len) = refl
handed_token a s (Character c literally) = refl

handed_tokens : (a : Sheet) (s : List ℕ) (es : List Event) → tokens_of a s es ≡ tokens_handed a (all_handed s es)
handed_tokens a s [] = refl
handed_tokens a s (e ∷ es) = ap₂ (λ (k : Token) (ks : List Token). k ∷ ks) (handed_token a s e) (handed_tokens a s es)

-- what is whole with more to come is whole at the end
followed_ended : (t : Tok) (r : List ℕ) → Followed true t r → Followed false t r
followed_ended (tag k n b) r f = tt
followed_ended (ref x) r f = tt
followed_ended (numeric k ds) r f = tt
followed_ended (line crlf) r f = tt
followed_ended (line cr) [] f = refl
followed_ended (line cr) (x ∷ r) f = f
followed_ended (char c) r f = tt

whole_ended : (ts : List Tok) (r : List ℕ) → AllWhole true ts r → AllWhole false ts r
whole_ended [] r w = tt
whole_ended (t ∷ ts) r w = (followed_ended t (flat ts ++ r) w.0, whole_ended ts r w.1)

pub accepted_normalised : (a : Sheet) → AcceptedNormalised a
accepted_normalised a s v x =
    let ts : List Tok = x.tokens in
    let es : List Event = events_at 0 ts in
    let to : 0 + length (flat ts) ≡ length (flat ts) = omega arith in
    let rd : Reads false s 0 es (length (flat ts)) =
    subst (Reads false s 0 es) to
    (subst (λ (l : List ℕ). Reads false l 0 es (0 + length (flat ts))) (append-nil (flat ts) ∙ sym x.are_bytes) (reads_flat false ts [] [] x.good x.short x.whole)) in
    let all : take (length (flat ts)) s ≡ s = ap (take (length (flat ts))) (x.are_bytes ∙ sym (append-nil (flat ts))) ∙ take-append_seam (flat ts) [] ∙ sym x.are_bytes in
    let t = subst (λ (l : List ℕ). TranslatedTo l es) all (translated false s es (length (flat ts)) rd) in
    let n : List ℕ = normal s in
    let k = read_tokens true n 0 t.again (length n) t.reads in
    let none : drop (length n) n ≡ [] = ap (drop (length n)) (sym (append-nil n)) ∙ drop-append_seam n [] in
    let same : tokens_for a ts ≡ tokens_for a k.toks =
    sym (tokens_at a s ts 0 [] (x.are_bytes ∙ sym (append-nil (flat ts)))) ∙ handed_tokens a s es ∙ ap (tokens_handed a) t.same ∙ sym (handed_tokens a n t.again)
    ∙ ap (tokens_of a n) k.events ∙ tokens_at a n k.toks 0 (drop (length n) n) k.split in
    record {
      tokens = k.toks;
      good = k.good;
      short = k.short;
      whole = whole_ended k.toks [] (subst (AllWhole true k.toks) none k.whole);
      are_bytes = k.split ∙ ap (λ (l : List ℕ). flat k.toks ++ l) none ∙ append-nil (flat k.toks);
      spells = subst (λ (ks : List Token). Spelled a ks v) same x.spells;
      counts = x.counts;
    }
