-- `rows::span::store_alike` meets its contract: what is put has the picture's channels.
use Rattle.rows.proofs.span.store_alike.Goals as goal

pub returns-then-picture-out_channels : goal.returns-then-picture-out_channels
returns-then-picture-out_channels c = rw (← c.if-picture-out_channels.true) c.store_inside.ensures
