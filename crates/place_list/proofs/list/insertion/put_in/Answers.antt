use Rattle.place_list.proofs.Inserts.{put_over}
use Rattle.place_list.proofs.list.insertion.put_in.Goals as goal

pub returns : goal.returns
returns g c = put_over c.args.new c.args.at c.args.items.now c.rotate_right.new.self c.requires c.rotate_right.ensures.after
