-- A rule more at the end of a chain.
use Rattle.std.proofs.Common.{◌≡◌, ◌≤◌, ◌<◌, ℕ, zero, suc, List, [], ◌∷◌, ◌++◌, map, length, slice_index_or, slice_set, refl, ap, arith}
use Rattle.fws_ipt.specs.declared.config.IptRule.{IptRule}
use Rattle.fws_ipt.specs.declared.config.IptChain.{IptChain}
use Rattle.fws_ipt.specs.FileText.{with_rule}
use Rattle.fws_ipt_read.specs.Keys.{key_of}

-- past the last chain nothing is changed
pub past_last : (n : ℕ) (rule : IptRule) (chains : List IptChain) → length chains ≤ n → chains ≡ with_rule n rule chains
past_last n rule [] h = refl
past_last zero rule (c ∷ cs) h = absurd (omega arith)
past_last (suc n) rule (c ∷ cs) h = let le : length cs ≤ n = omega arith in ap (λ ds. c ∷ ds) (past_last n rule cs le)

pub at_chain : (n : ℕ) (rule : IptRule) (chains : List IptChain) (d : IptChain) (rules : List IptRule) → n < length chains →
    rules ≡ (slice_index_or chains n d).rules ++ rule ∷ [] →
    slice_set chains n (record (slice_index_or chains n d) { rules = rules }) ≡ with_rule n rule chains
at_chain n rule [] d rules h e = absurd (omega arith)
at_chain zero rule (c ∷ cs) d rules h e = ap (λ rs. record c { rules = rs } ∷ cs) e
at_chain (suc n) rule (c ∷ cs) d rules h e = let lt : n < length cs = omega arith in ap (λ ds. c ∷ ds) (at_chain n rule cs d rules lt e)

-- other rules leave the names
pub same_keys : (n : ℕ) (chains : List IptChain) (d : IptChain) (rules : List IptRule) →
    map key_of (slice_set chains n (record (slice_index_or chains n d) { rules = rules })) ≡ map key_of chains
same_keys n [] d rules = refl
same_keys zero (c ∷ cs) d rules = refl
same_keys (suc n) (c ∷ cs) d rules = ap (λ ks. key_of c ∷ ks) (same_keys n cs d rules)
