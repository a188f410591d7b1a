use Rattle.cfn_line.proofs.CallerLemmas.{put_once, say_once}
use Rattle.cfn_line.proofs.channel.send.Goals as goal

pub returns-in-File : goal.returns-in-File
returns-in-File g c = rw c.in-File.is (put_once _ _ _ _ (rw c.in-File.is at c.requires) c.put.ensures.called)

pub returns-in-Screen : goal.returns-in-Screen
returns-in-Screen g c = rw c.in-Screen.is (say_once _ _ _ _ c.say.ensures.called)
