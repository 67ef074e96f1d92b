-- A Hello as the definitions have it.
use Rattle.handshakes.specs.declared.reading.Hello.{Hello as HelloRead}
use Rattle.live_model.specs.Handshake.{Hello}

abbrev pub hello_value : HelloRead → Hello
hello_value h = record { version = h.version; player = h.player; digest = h.digest.now }
