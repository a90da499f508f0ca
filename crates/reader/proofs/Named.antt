-- What is answered under terms is answered for the number of bits and the rate that they name: one that is not the caller's is refused where it stands.
-- Assumes nothing.
use mathlib.Core.Bool.{Bool}
use mathlib.Core.List.{List}
use mathlib.Core.Path.{◌≡◌}
use Prim.Native.Nat.{ℕ}
use Rattle.terms.specs.declared.Terms.{Terms}
use Rattle.terms.specs.Terms.{naming}
use Rattle.terms.proofs.Usual.{naming-so}
use Rattle.reader.specs.Reader.{ReadAnswer, Reads}

module _ (terms : Terms) (given mend : ℕ) (named-1200 rate-1200 : Bool) (is : terms ≡ naming given named-1200) (same : given ≡ mend)
    (rate : named-1200 ≡ rate-1200) (packet : List ℕ) where
  pub reads-naming : (entry exit : List ℕ) (answer : ReadAnswer) → Reads terms packet entry answer exit → Reads (naming mend rate-1200) packet entry answer exit
  reads-naming entry exit answer = naming-so (λ (t : Terms). Reads t packet entry answer exit) terms given mend named-1200 rate-1200 is same rate
