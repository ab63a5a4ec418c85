use Rattle.std.proofs.Common.{◌≡◌, ℕ, ◌≤◌, true, subst, arith}
use Rattle.fws_iv.specs.Ivs.{has}
use Rattle.fws_tree_seen.specs.declared.field.PacketField.{PacketField}
use Rattle.fws_tree_seen.specs.Fields.{top_of}
use Rattle.fws_ipt_put_chains.proofs.default.price.Goals as goal

pub cubes-requires : goal.cubes-requires
cubes-requires c = λ v h.
    let P : PacketField → Type 0 = λ f. (v : ℕ) → has c.args.set.now v ≡ true → v ≤ top_of f in
    let le = (subst P c.in-Flags.is c.requires) v h in omega (arith, le)

pub port_lists-requires : goal.port_lists-requires
port_lists-requires c =
    let P : PacketField → Type 0 = λ f. (v : ℕ) → has c.args.set.now v ≡ true → v ≤ top_of f in subst P c.in-Dport.is c.requires

pub port_lists-requires-in-Sport : goal.port_lists-requires-in-Sport
port_lists-requires-in-Sport c =
    let P : PacketField → Type 0 = λ f. (v : ℕ) → has c.args.set.now v ≡ true → v ≤ top_of f in subst P c.in-Sport.is c.requires
