-- `emit_event` meets its contract: the part that the event's segment has is lent.
use Rattle.emit.proofs.Runs.{form_back, form_room}
use Rattle.emit.proofs.emit_event.Goals as goal

pub put_event-requires : goal.put_event-requires
put_event-requires c =
    record { writes = c.requires.writes; part_length = form_room _ _ _ _ _ c.requires.within.0 c.requires.within.1 }

pub returns : goal.returns
returns c bytes keeps =
    form_back _ _ c.args.event _ _ _ c.args.arch bytes c.requires.within.0 c.requires.within.1 (c.put_event.ensures bytes keeps)
