use Rattle.ev_deliver.proofs.FredDelivers.{fred_delivers, fred_facts, frames_tell}
use Rattle.ev_deliver.proofs.Tops.{fred_from_task, fred_from_body, fred_to_level}
use Rattle.ev_deliver.proofs.fred_events.Goals as goal

pub returns : goal.returns
returns c = record
    { begins = fred_delivers; facts = fred_facts; frames = frames_tell; from_task = fred_from_task; from_body = fred_from_body; to_level = fred_to_level }
