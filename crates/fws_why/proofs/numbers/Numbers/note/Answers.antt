use Rattle.std.proofs.Common.{◌≡◌, cond, unwrap_or, Some, None, [], ap, subst}
use Rattle.std.specs.HashMap.{get}
use Rattle.fws_ifcl.specs.Uses.{is_place}
use Rattle.fws_why.specs.declared.numbers.Key.{Key}
use Rattle.fws_why.specs.Numbers.{key_of, key_eq}
use Rattle.fws_why.proofs.Spotted.{same_key, noted}
use Rattle.fws_why.proofs.numbers.Numbers.note.Goals as goal

pub returns : goal.returns
returns c place =
    let at = c.args.spot.at in
    let old = c.args.self.now.at in
    let left = c.take-numbers.new.self.at in
    let new = c.insert.new.self in
    let put = c.put.new.self in
    noted (is_place at place) (get key_eq old (key_of at)) (get key_eq old (key_of place)) (get key_eq left (key_of place)) (get key_eq new (key_of place))
    c.take-numbers.result put c.args.spot
    (subst (λ (k : Key). get key_eq new (key_of place) ≡ cond (key_eq k (key_of place)) (Some put) (get key_eq left (key_of place))) c.of-key.ensures (c.in_ok-insert.ensures.updates.0 (key_of place)))
    (subst (λ (k : Key). get key_eq left (key_of place) ≡ cond (key_eq k (key_of place)) None (get key_eq old (key_of place))) c.of-key.ensures (c.take-numbers.ensures.left (key_of place)))
    (λ e. ap (get key_eq old) (same_key at place e))
    (subst (λ (k : Key). c.take-numbers.result ≡ unwrap_or (get key_eq old k) []) c.of-key.ensures c.take-numbers.ensures.taken)
    c.in_ok-put.ensures.ok
