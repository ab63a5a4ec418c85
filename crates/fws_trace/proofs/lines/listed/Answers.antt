use Rattle.fws_trace.proofs.Listing.{accepted, refused}
use Rattle.fws_trace.proofs.lines.listed.Goals as goal

pub returns-in-Ok : goal.returns-in-Ok
returns-in-Ok g c spelled text given = accepted spelled text c.args.read c.in-Ok.list c.into_vec.result.items c.in-Ok.is given c.into_vec.ensures

pub returns-in-Err : goal.returns-in-Err
returns-in-Err g c spelled text given = refused spelled text c.args.read c.in-Err.answer c.line_answer.result c.in-Err.is given
    c.line_answer.ensures.refused c.line_answer.ensures.memory
