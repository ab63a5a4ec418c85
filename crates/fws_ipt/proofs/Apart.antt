-- No two chains have the same table and name.
use Rattle.std.proofs.Common.{◌≡◌, ℕ, zero, suc, Bool, true, false, cond, ◌&&◌, not, Option, Some, is_some, List, [], ◌∷◌, ◌++◌, refl, sym, ◌∙◌, ap}
use Rattle.std.proofs.lemmas.Bool.{false≢true, and_parts, and_from}
use Rattle.std.proofs.lemmas.List.Folds.{list_all-append}
use Rattle.std.specs.List.{list_all}
use Rattle.fws_ipt.specs.declared.config.IptTable.{IptTable}
use Rattle.fws_ipt.specs.declared.config.IptRule.{IptRule}
use Rattle.fws_ipt.specs.declared.config.IptChain.{IptChain}
use Rattle.fws_ipt.specs.FileText.{with_rule}
use Rattle.fws_ipt.specs.RuleText.{is_chain, chain_from}
use Rattle.fws_ipt.specs.Soundness.{are_apart}
use Rattle.fws_ipt.proofs.Users.{ruled_alike}

not_here : (b : Bool) (n : ℕ) (o : Option ℕ) → is_some (cond b (Some n) o) ≡ false → (not b ≡ true) × (is_some o ≡ false)
not_here true n o h = absurd (false≢true (sym h))
not_here false n o h = (refl, h)

-- a name that isn't found is that of no chain
pub unseen : (n : ℕ) (table : IptTable) (name : List ℕ) (chains : List IptChain) → is_some (chain_from n table name chains) ≡ false
    → list_all (λ chain. not (is_chain table name chain)) chains ≡ true
unseen n table name [] h = refl
unseen n table name (chain ∷ chains) h =
    let both = not_here (is_chain table name chain) n (chain_from (suc n) table name chains) h in
    and_from (not (is_chain table name chain)) (list_all (λ x. not (is_chain table name x)) chains) both.0 (unseen (suc n) table name chains both.1)

-- a chain more, of a new table and name
pub longer_apart : (chains : List IptChain) (chain : IptChain) → list_all (λ x. not (is_chain chain.table chain.name x)) chains ≡ true → are_apart chains ≡ true
    → are_apart (chains ++ chain ∷ []) ≡ true
longer_apart [] chain new h = refl
longer_apart (x ∷ xs) chain new h =
    let differs : IptChain → Bool = λ later. not (is_chain later.table later.name x) in
    let both = and_parts (list_all differs xs) (are_apart xs) h in
    let here = and_parts (differs chain) (list_all (λ y. not (is_chain chain.table chain.name y)) xs) new in
    let first : list_all differs (xs ++ chain ∷ []) ≡ true =
    list_all-append differs xs (chain ∷ []) ∙ and_from (list_all differs xs) (list_all differs (chain ∷ [])) both.0 (and_from (differs chain) true here.0 refl) in
    and_from (list_all differs (xs ++ chain ∷ [])) (are_apart (xs ++ chain ∷ [])) first (longer_apart xs chain here.1 both.1)

with_rule-apart : (n : ℕ) (rule : IptRule) (chains : List IptChain) → are_apart (with_rule n rule chains) ≡ are_apart chains
with_rule-apart n rule [] = refl
with_rule-apart zero rule (chain ∷ chains) = refl
with_rule-apart (suc n) rule (chain ∷ chains) =
    let differs : IptChain → Bool = λ later. not (is_chain later.table later.name chain) in
    ap (λ b. b && are_apart (with_rule n rule chains)) (ruled_alike differs (λ x rules. refl) n rule chains)
    ∙ ap (λ b. list_all differs chains && b) (with_rule-apart n rule chains)

-- a rule more
pub ruled_apart : (n : ℕ) (rule : IptRule) (chains : List IptChain) → are_apart chains ≡ true → are_apart (with_rule n rule chains) ≡ true
ruled_apart n rule chains h = with_rule-apart n rule chains ∙ h
