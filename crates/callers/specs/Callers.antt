-- Who started a conversion, as far as it is not the system that says it. Definitions.
-- Assumes nothing.
use Rattle.std.specs.Prelude.{◌≡◌, Bool, false, is_some, None}
use Rattle.callers.specs.declared.Caller.{Caller}

-- nobody watches, and nobody listens
abbrev pub nobody : Caller
nobody = record { watches = false; listener = None }

-- somebody who watches where w says so, and listens where l does
pub record Somebody (w l : Bool) (r : Caller) : Type 0 where
  pub watches : r.watches ≡ w
  pub listens : is_some r.listener ≡ l

-- where nobody listens, the answer
abbrev pub Unheard : Caller → Bool → Bool → Type 0
Unheard c answer r = is_some c.listener ≡ false → r ≡ answer
