use Rattle.std.proofs.Common.{◌≡◌, ◌<◌, [], length, get_or}
use Rattle.fws_io.proofs.Entries.{replaced, replaced-held}
use Rattle.fws_io.specs.declared.contents.Held.{Held}
use Rattle.fws_io.proofs.contents.Contents.hold.Goals as goal

pub returns-in-Some-clause-told : goal.returns-in-Some-clause-told
returns-in-Some-clause-told c =
    let blank : Held = record { name = []; content = [] } in
    let entry : Held = record { name = c.args.name.now; content = c.args.content.now } in
    let within : c.in-Some.place < length c.self.inside.entries.items = rw c.deref.ensures.value at c.in-Some.ensures.within in
    let named : (get_or c.self.inside.entries.items c.in-Some.place blank).name ≡ c.args.name.now = cc (c.in-Some.ensures.named, c.deref.ensures.value) in
    let e = replaced blank c.self.inside.entries.items entry c.in-Some.place within named in
    cc (e, c.remove.ensures.items, c.in_ok-insert.ensures.items, c.self.view_is, c.in_ok-entry.ensures)

pub returns-in-Some-clause-held : goal.returns-in-Some-clause-held
returns-in-Some-clause-held c = λ asked.
    let blank : Held = record { name = []; content = [] } in
    let entry : Held = record { name = c.args.name.now; content = c.args.content.now } in
    let within : c.in-Some.place < length c.self.inside.entries.items = rw c.deref.ensures.value at c.in-Some.ensures.within in
    let named : (get_or c.self.inside.entries.items c.in-Some.place blank).name ≡ c.args.name.now = cc (c.in-Some.ensures.named, c.deref.ensures.value) in
    let e = replaced-held blank c.self.inside.entries.items entry c.in-Some.place within named asked in
    cc (e, c.remove.ensures.items, c.in_ok-insert.ensures.items, c.self.view_is, c.in_ok-entry.ensures)
